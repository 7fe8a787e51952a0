use Rattle.dimacs_col.specs.Reading.{graph_of}
use Rattle.plan_answers.specs.Answers.{network_with}
use Rattle.play_inputs.proofs.Settings.{graph-count}
use Rattle.play_inputs.proofs.network.network_of_text.Goals as goal

-- the root is no vertex of the network of the graph
pub returns-in-Some-clause-fault : goal.returns-in-Some-clause-fault
returns-in-Some-clause-fault c =
    let graph = graph_of c.in_ok-graph.graph in
    (graph, c.in_ok-graph.ensures.ok, c.in-Some.ensures (network_with graph) (graph-count graph))
