use Rattle.alpha_core.proofs.Counts.{all-closed-counted, all-safe-counted, none-waits-counted}
use Rattle.alpha_core.proofs.laws.counts_say_what_all_ports_say.Goals as goal

pub returns : goal.returns
returns g c = record { waits = none-waits-counted; safe = all-safe-counted; closed = all-closed-counted }
