use Rattle.plan_runs.proofs.Colours.{coloured, outcomes_coloured, runs_coloured}
use Rattle.plan_runs.proofs.coloured_runs.halted_nodes_are_coloured.Goals as goal

pub returns : goal.returns
returns c = record {
  nodes = λ net ok. coloured net ok;
  runs = λ net ok. runs_coloured net ok;
  outcomes = λ net ok. outcomes_coloured net ok;
}
