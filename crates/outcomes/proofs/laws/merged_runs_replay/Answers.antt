use Rattle.outcomes.proofs.Runs.{merged}
use Rattle.outcomes.proofs.laws.merged_runs_replay.Goals as goal

pub returns : goal.returns
returns g c = record {
  law = λ program laws net ok nodes links wrote rows are merge. merged program net ok nodes links wrote rows are merge;
}
