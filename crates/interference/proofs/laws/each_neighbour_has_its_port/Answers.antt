use Rattle.interference.proofs.Neighbours.{port_to-below, at-port_to, port_to-is}
use Rattle.interference.proofs.laws.each_neighbour_has_its_port.Goals as goal

pub returns-clause-at_it : goal.returns-clause-at_it
returns-clause-at_it c = λ net ok v w edge. (port_to-below net ok v w edge.1, at-port_to net ok v w edge.1)

pub returns-clause-no_other : goal.returns-clause-no_other
returns-clause-no_other c = port_to-is
