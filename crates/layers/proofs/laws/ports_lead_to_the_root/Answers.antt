use Rattle.std.proofs.Common.{refl}
use Rattle.layers.proofs.Following.{leads}
use Rattle.layers.proofs.Reached.{finds}
use Rattle.layers.proofs.laws.ports_lead_to_the_root.Goals as goal

pub returns : goal.returns
returns c = record { tree = λ net ok v hops vertex is. leads net ok _ (finds net ok) hops v vertex _ refl is }
