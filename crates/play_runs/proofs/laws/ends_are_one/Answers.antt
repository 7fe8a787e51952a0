use Rattle.play_runs.proofs.One.{one-text}
use Rattle.play_runs.proofs.laws.ends_are_one.Goals as goal

pub returns : goal.returns
returns g c = record { same = one-text g.P.NodeProgram.program g.P.ProgramText.texts }
