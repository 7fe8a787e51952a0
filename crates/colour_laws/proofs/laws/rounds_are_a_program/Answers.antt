use Rattle.colour_laws.proofs.Rounds.{rounds_are_program}
use Rattle.colour_laws.proofs.laws.rounds_are_a_program.Goals as goal

pub returns : goal.returns
returns c = rounds_are_program
