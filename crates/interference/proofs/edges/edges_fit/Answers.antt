use Rattle.std.proofs.Common.{arith}
use Rattle.std.proofs.lemmas.Bool.{both_ways}
use Rattle.std.proofs.lemmas.List.Elements.{Contains-get_or}
use Rattle.interference.proofs.edges.edges_fit.Goals.{then-edges-le-MAX_EDGES, else-edges-le-MAX_EDGES, then-nodes-le-MAX_NODES, else-nodes-le-MAX_NODES}
use Rattle.interference.proofs.edges.edges_fit.Goals as goal

pub returns-else-all_fit : goal.returns-else-all_fit
returns-else-all_fit c = (
  (λ t. absurd (both_ways _ c.if-all_fit.false t)),
  (λ fit. elim c.if-edges-le-MAX_EDGES.branch [
    | then-edges-le-MAX_EDGES w ↦
        rw w.value-is (w.all_fit.ensures.1 (λ k d h. fit.limits.edges_fit _ (Contains-get_or c.args.edges.now k d h)))
    | else-edges-le-MAX_EDGES w ↦ elim c.if-nodes-le-MAX_NODES.branch [
      | then-nodes-le-MAX_NODES n ↦ absurd (omega (arith, fit.limits.edges_few))
      | else-nodes-le-MAX_NODES n ↦ absurd (omega (arith, fit.limits.nodes_fit))
    ]
  ]),
)
