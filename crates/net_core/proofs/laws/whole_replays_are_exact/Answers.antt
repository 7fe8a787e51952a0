use Rattle.net_core.proofs.WholeReplays.{exact}
use Rattle.net_core.proofs.laws.whole_replays_are_exact.Goals as goal

pub returns : goal.returns
returns g c = record { law = λ program laws net ok. exact program net ok }
