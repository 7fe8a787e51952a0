use Rattle.std.proofs.Common.{refl}
use Rattle.colour_laws.proofs.laws.table_has_these_rows.Goals as goal

pub returns-clause-greet : goal.returns-clause-greet
returns-clause-greet c = λ n g. (refl, refl, refl, refl)

pub returns-clause-orient : goal.returns-clause-orient
returns-clause-orient c = λ n g. (refl, refl, refl, refl)

pub returns-clause-seed : goal.returns-clause-seed
returns-clause-seed c = λ n g. (refl, refl, refl, refl)

pub returns-clause-work : goal.returns-clause-work
returns-clause-work c = λ r n g. (refl, refl, refl, refl)

pub returns-clause-merge : goal.returns-clause-merge
returns-clause-merge c = λ f s n g. (refl, refl, refl, refl)

pub returns-clause-halted : goal.returns-clause-halted
returns-clause-halted c = λ n g. (refl, refl, refl, refl)
