use Rattle.alpha_laws.proofs.Counts.{lists_counted}
use Rattle.alpha_laws.proofs.laws.complete_lists_are_counted.Goals as goal

pub returns : goal.returns
returns g c = record { law = λ program net ok. lists_counted program net ok }
