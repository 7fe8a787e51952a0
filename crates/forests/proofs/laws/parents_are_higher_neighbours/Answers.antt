use Rattle.forests.proofs.Parents.{parent-in_up, up-neighbour, parent-higher}
use Rattle.forests.proofs.laws.parents_are_higher_neighbours.Goals as goal

pub returns-clause-neighbour : goal.returns-clause-neighbour
returns-clause-neighbour c = λ net f v w is. up-neighbour net v w (parent-in_up net f v w is)

pub returns-clause-higher : goal.returns-clause-higher
returns-clause-higher c = parent-higher
