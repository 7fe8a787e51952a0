use Rattle.std.proofs.Common.{arith}
use Rattle.bound_laws.proofs.ColouringSent.{colouring-over}
use Rattle.bound_laws.proofs.laws.colouring_is_bounded.Goals as goal

pub returns-clause-payloads : goal.returns-clause-payloads
returns-clause-payloads c = λ net ok v w edge. omega (arith, colouring-over net ok v w edge)

pub returns-clause-by_forest : goal.returns-clause-by_forest
returns-clause-by_forest c = λ net ok v w edge. colouring-over net ok v w edge
