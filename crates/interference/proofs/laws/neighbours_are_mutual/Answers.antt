use Rattle.interference.proofs.Neighbours.{both-ways, neighbour-is_vertex}
use Rattle.interference.proofs.laws.neighbours_are_mutual.Goals as goal

pub returns : goal.returns
returns c = λ net ok v w edge. (neighbour-is_vertex net ok v w edge.0 edge.1, both-ways net ok v w edge.0 edge.1)
