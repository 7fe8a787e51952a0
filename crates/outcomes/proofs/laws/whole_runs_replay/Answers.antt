use Rattle.outcomes.proofs.Clocks.{whole_replay}
use Rattle.outcomes.proofs.laws.whole_runs_replay.Goals as goal

pub returns : goal.returns
returns g c = record {
  law = λ program laws net ok nodes counters puts takens held wrote rows met merge drained empty.
      whole_replay program net ok nodes counters puts takens held wrote rows met merge drained empty;
}
