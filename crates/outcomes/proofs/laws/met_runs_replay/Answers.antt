use Rattle.outcomes.proofs.Clocks.{met_replay}
use Rattle.outcomes.proofs.laws.met_runs_replay.Goals as goal

pub returns : goal.returns
returns g c = record {
  law = λ program laws net ok nodes counters puts takens held wrote rows met merge.
      met_replay program net ok nodes counters puts takens held wrote rows met merge;
}
