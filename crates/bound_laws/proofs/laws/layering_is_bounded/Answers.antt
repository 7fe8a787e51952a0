use Rattle.std.proofs.Common.{arith}
use Rattle.bound_laws.proofs.LayersSent.{layers-over}
use Rattle.bound_laws.proofs.laws.layering_is_bounded.Goals as goal

pub returns-clause-payloads : goal.returns-clause-payloads
returns-clause-payloads c = λ net ok v w edge. omega (arith, layers-over net ok v w, layers-over net ok w v)
