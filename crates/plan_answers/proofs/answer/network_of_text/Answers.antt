use Rattle.std.proofs.Common.{subst}
use Rattle.dimacs_col.specs.Reading.{graph_of}
use Rattle.interference.specs.Net.{IsNetwork}
use Rattle.plan_answers.proofs.answer.network_of_text.Goals as goal

-- what was read is the network of the graph
pub returns-clause-ok : goal.returns-clause-ok
returns-clause-ok c =
    let made = c.in_ok-network_of_graph.ensures.made in (
      graph_of c.in_ok-graph.graph,
      c.in_ok-graph.ensures.ok,
      (subst (λ n. IsNetwork n) made c.in_ok-network_of_graph.ensures.network, made),
    )
