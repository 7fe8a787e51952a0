use Rattle.plan_runs.proofs.OutcomeRuns.{whole_ends}
use Rattle.plan_runs.proofs.coloured_runs.whole_outcomes_are_ends.Goals as goal

pub returns : goal.returns
returns g c = record { law = λ program laws net ok. whole_ends program laws net ok }
