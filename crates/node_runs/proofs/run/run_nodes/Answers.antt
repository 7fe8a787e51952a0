use Rattle.std.proofs.Common.{map, sym, ap, ◌∙◌, arith, vec_len}
use Rattle.interference.specs.Net.{count_of}
use Rattle.node_runs.specs.Refusals.{fault_of_refusals}
use Rattle.node_runs.proofs.NoneRefused.{none_refused}
use Rattle.node_runs.proofs.Numbers.{as_many, from_one, from_the_last}
use Rattle.node_runs.proofs.run.run_nodes.Goals as goal

-- the numbers of the nodes are those below their count
pub run_tasks-requires-clause-numbers : goal.run_tasks-requires-clause-numbers
run_tasks-requires-clause-numbers g c κs within =
    let nodes = c.args.nodes in
    let n = count_of g.J.Wiring.net in
    let many = as_many (λ b. b.value.vertex) nodes.items n c.requires.nodes in
    from_the_last (λ b. b.value.vertex) nodes.items n (vec_len nodes) (omega (arith, nodes.ok.0)) c.requires.nodes

-- they come back from the first vertex up
pub returns-clause-order : goal.returns-clause-order
returns-clause-order g c =
    let nodes = c.args.nodes in
    let n = count_of g.J.Wiring.net in
    let many = as_many (λ b. b.value.vertex) nodes.items n c.requires.nodes in
    from_one (λ b. b.value.vertex) (λ b. b.value.kept.is_vertex.0) c.in_ok-nodes.nodes.items n (vec_len nodes) (omega (arith, nodes.ok.0))
    c.in_ok-nodes.ensures.order

-- none of them remembers that memory was refused, since it wasn't reported
pub returns-clause-none_refused : goal.returns-clause-none_refused
returns-clause-none_refused g c =
    none_refused (tt {0}) (λ b. b.value.refusal) c.in_ok-nodes.nodes.items (tt {0})
    (ap (λ nodes. fault_of_refusals (tt {0}) (map (λ b. b.value.refusal) nodes)) (sym c.as_slice.ensures.value)
    ∙ sym c.fault_of_refusals.ensures.fault ∙ c.in_ok-fault_of_refusals.was)
