use Rattle.std.proofs.Common.{arith}
use Rattle.bound_laws.proofs.FewSteps.{four-steps, six-by-colours, six-by-digits, steps-few}
use Rattle.bound_laws.proofs.laws.iterated_steps_leave_six.Goals as goal

pub returns-clause-colours : goal.returns-clause-colours
returns-clause-colours c = six-by-colours

pub returns-clause-digits : goal.returns-clause-digits
returns-clause-digits c = six-by-digits

pub returns-clause-few : goal.returns-clause-few
returns-clause-few c b = omega (arith, steps-few b)

pub returns-clause-four : goal.returns-clause-four
returns-clause-four c = four-steps
