use Rattle.plan_runs.proofs.Colours.{maximal_coloured}
use Rattle.plan_runs.proofs.coloured_runs.maximal_runs_are_coloured.Goals as goal

pub returns : goal.returns
returns c = record { law = λ net ok. maximal_coloured net ok }
