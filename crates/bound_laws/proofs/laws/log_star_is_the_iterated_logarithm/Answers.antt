use Rattle.bound_laws.proofs.FewSteps.{log_star-least, log_star-power, log_star-reached}
use Rattle.bound_laws.proofs.laws.log_star_is_the_iterated_logarithm.Goals as goal

pub returns-clause-reached : goal.returns-clause-reached
returns-clause-reached c = log_star-reached

pub returns-clause-least : goal.returns-clause-least
returns-clause-least c = log_star-least

pub returns-clause-power : goal.returns-clause-power
returns-clause-power c = log_star-power
