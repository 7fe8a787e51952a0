use Rattle.plan_runs.proofs.Stamped.{stamps-fit}
use Rattle.plan_runs.proofs.coloured_runs.stamps_fit.Goals as goal

pub returns : goal.returns
returns g c = record { law = λ program laws net ok. stamps-fit program laws net ok }
