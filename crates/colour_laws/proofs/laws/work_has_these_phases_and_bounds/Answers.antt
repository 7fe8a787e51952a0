use Rattle.std.proofs.Common.{refl}
use Rattle.colour_laws.proofs.laws.work_has_these_phases_and_bounds.Goals as goal

pub returns-clause-phases : goal.returns-clause-phases
returns-clause-phases c = λ sizes. refl

pub returns-clause-first_step : goal.returns-clause-first_step
returns-clause-first_step c = λ n. refl

pub returns-clause-second_step : goal.returns-clause-second_step
returns-clause-second_step c = λ n. refl

pub returns-clause-third_step : goal.returns-clause-third_step
returns-clause-third_step c = λ n. refl

pub returns-clause-fourth_step : goal.returns-clause-fourth_step
returns-clause-fourth_step c = λ n. refl

pub returns-clause-shift : goal.returns-clause-shift
returns-clause-shift c = λ x n. refl

pub returns-clause-drop : goal.returns-clause-drop
returns-clause-drop c = λ x n. refl
