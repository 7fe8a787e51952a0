use Rattle.plan_runs.proofs.Stamped.{stamps-bounded}
use Rattle.plan_runs.proofs.coloured_runs.stamps_are_bounded.Goals as goal

pub returns : goal.returns
returns g c = record { law = λ program laws net ok. stamps-bounded program laws net ok }
