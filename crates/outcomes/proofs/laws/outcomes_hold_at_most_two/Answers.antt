use Rattle.outcomes.proofs.Held.{at_most_two}
use Rattle.outcomes.proofs.laws.outcomes_hold_at_most_two.Goals as goal

pub returns : goal.returns
returns g c = record { law = λ program net ok. at_most_two program net ok }
