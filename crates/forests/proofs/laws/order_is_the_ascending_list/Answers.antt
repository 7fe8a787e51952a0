use Rattle.forests.proofs.Orders.{order-moves, order-ascends, ascending-is_in_order}
use Rattle.forests.proofs.laws.order_is_the_ascending_list.Goals as goal

pub returns-clause-entries : goal.returns-clause-entries
returns-clause-entries c = λ key xs. order-moves key xs

pub returns-clause-ascending : goal.returns-clause-ascending
returns-clause-ascending c = λ key xs. order-ascends key xs

pub returns-clause-alone : goal.returns-clause-alone
returns-clause-alone c = λ key xs ys. ascending-is_in_order key xs ys
