use Rattle.alpha_laws.proofs.Runs.{runs}
use Rattle.lone_runs.proofs.FairTurns.{exist, turn_of}
use Rattle.lone_runs.proofs.laws.fair_laps_exist.Goals as goal

pub returns : goal.returns
returns g c = record {
  law = λ program laws net ok. exist ok (runs program laws net ok);
  turns = λ program laws net ok. turn_of ok (runs program laws net ok);
}
