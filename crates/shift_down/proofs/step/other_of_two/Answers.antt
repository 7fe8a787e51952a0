use Rattle.std.proofs.Common.{arith}
use Rattle.std.proofs.lemmas.Bool.Decides.{nat_tests}
use Rattle.colour_base.specs.Least.{least}
use Rattle.shift_down.specs.Steps.{other_of_two}
use Rattle.shift_down.proofs.step.other_of_two.Goals as goal

pub returns-then-two-ne0 : goal.returns-then-two-ne0
unfolding other_of_two least
returns-then-two-ne0 c = grind (arith, nat_tests)

pub returns-then-two-ne1 : goal.returns-then-two-ne1
unfolding other_of_two least
returns-then-two-ne1 c = grind (arith, nat_tests)

pub returns-else-one-ne1 : goal.returns-else-one-ne1
unfolding other_of_two least
returns-else-one-ne1 c = grind (arith, nat_tests)
