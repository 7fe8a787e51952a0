use Rattle.interference.proofs.TwoEnds.{degrees-are_twice_edges, ports-swapped}
use Rattle.interference.proofs.EdgeCount.{edge_count-is}
use Rattle.interference.proofs.laws.each_edge_has_two_ends.Goals as goal

pub returns-clause-degrees : goal.returns-clause-degrees
returns-clause-degrees c = degrees-are_twice_edges

pub returns-clause-either_end : goal.returns-clause-either_end
returns-clause-either_end c = ports-swapped

pub returns-clause-made : goal.returns-clause-made
returns-clause-made c = edge_count-is
