use Rattle.alpha_laws.proofs.Runs.{runs}
use Rattle.alpha_laws.proofs.Whole.{has_ended}
use Rattle.outcomes.proofs.Whole.{link_splits, whole_is}
use Rattle.outcomes.proofs.laws.whole_outcomes_have_ended.Goals as goal

pub returns : goal.returns
returns g c = record {
  law = λ program laws net ok capacity transcript outcome is whole.
      has_ended ok is.simulates (link_splits program net ok capacity transcript outcome is)
      (whole_is program net ok capacity transcript outcome is whole) (runs program laws net ok);
}
