use Rattle.outcomes.proofs.Merged.{whole_replay}
use Rattle.outcomes.proofs.laws.whole_outcomes_replay.Goals as goal

pub returns : goal.returns
returns g c = record {
  law = λ program net ok capacity outcome is whole rows merge. whole_replay program net ok outcome capacity is whole rows merge;
}
