use Rattle.plan_runs.proofs.OutcomeRuns.{outcomes_run}
use Rattle.plan_runs.proofs.coloured_runs.outcomes_are_runs.Goals as goal

pub returns : goal.returns
returns g c = record { law = λ program laws net ok. outcomes_run program laws net ok }
