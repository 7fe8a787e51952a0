use Rattle.std.proofs.Common.{arith}
use Rattle.std.proofs.lemmas.Bool.Decides.{nat_tests}
use Rattle.colour_base.specs.Least.{least}
use Rattle.shift_down.specs.Steps.{other}
use Rattle.shift_down.proofs.step.other.Goals as goal

pub returns-then-colour-eq0 : goal.returns-then-colour-eq0
unfolding other least
returns-then-colour-eq0 c = grind (arith, nat_tests)

pub returns-else-colour-eq0 : goal.returns-else-colour-eq0
unfolding other least
returns-else-colour-eq0 c = grind (arith, nat_tests)
