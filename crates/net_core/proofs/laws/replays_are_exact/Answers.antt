use Rattle.net_core.proofs.Decided.{decided}
use Rattle.net_core.proofs.laws.replays_are_exact.Goals as goal

pub returns : goal.returns
returns g c = record { law = λ program laws net ok. decided program net ok }
