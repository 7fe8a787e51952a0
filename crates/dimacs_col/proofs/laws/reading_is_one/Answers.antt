use Rattle.dimacs_col.proofs.Unique.{one-graph, graph-or_fault, one-fault}
use Rattle.dimacs_col.proofs.laws.reading_is_one.Goals as goal

pub returns-clause-graph : goal.returns-clause-graph
returns-clause-graph c = one-graph

pub returns-clause-graph_or_fault : goal.returns-clause-graph_or_fault
returns-clause-graph_or_fault c = graph-or_fault

pub returns-clause-fault : goal.returns-clause-fault
returns-clause-fault c = one-fault
