use Rattle.outcomes.proofs.Progress.{goes_on}
use Rattle.outcomes.proofs.laws.stopped_outcomes_can_go_on.Goals as goal

pub returns : goal.returns
returns g c = record {
  law = λ program laws net ok capacity transcript outcome is some. goes_on program net ok capacity transcript outcome is some;
}
