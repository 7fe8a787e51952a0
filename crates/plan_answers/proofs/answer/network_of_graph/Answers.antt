-- The plan: the identifiers are those of the graph (ids), so the network of these is the network of the graph (made).
use Rattle.std.proofs.Common.{◌≡◌, ◌∙◌, ap, length, subst, sym}
use Rattle.std.specs.Prelude.{IfErr, IfOk}
use Rattle.std.proofs.lemmas.List.FromFn.{length-map-range_with_len}
use Rattle.std.specs.Option.{unwrap_or}
use Rattle.graph_limits.specs.Pairs.{AreVertices}
use Rattle.dimacs_col.specs.Reading.{graph_of, id_in}
use Rattle.interference.specs.Making.{IsFaultOf, network_of}
use Rattle.plan_answers.specs.Answers.{identifiers_with, network_with}
use Rattle.plan_answers.proofs.answer.network_of_graph.Goals.{After-drop-ids}
use Rattle.plan_answers.proofs.answer.network_of_graph.Goals as goal

pub identifiers-requires : goal.identifiers-requires
identifiers-requires c = subst (AreVertices c.args.graph.now.nodes) (sym c.as_slice.ensures.value) c.requires.vertices

pub new-requires-clause-ids : goal.new-requires-clause-ids
new-requires-clause-ids c =
    ap length (c.as_slice-2.ensures.value ∙ c.in-Ok.ensures)
    ∙ length-map-range_with_len (λ v. unwrap_or (id_in c.as_slice.result.now v) v) 1 c.args.graph.now.nodes

made : (c : After-drop-ids) → network_of c.as_slice-2.result.now c.as_slice-3.result.now c.as_slice-4.result.now ≡ network_with (graph_of c.args.graph.now)
made c =
    let graph = graph_of c.args.graph.now in
    let ids : c.as_slice-2.result.now ≡ identifiers_with graph.ids graph.nodes =
    c.as_slice-2.ensures.value ∙ c.in-Ok.ensures ∙ ap (λ given. identifiers_with given graph.nodes) c.as_slice.ensures.value in
    ap (λ i. network_of i c.as_slice-3.result.now c.as_slice-4.result.now) ids
    ∙ ap (λ e. network_of (identifiers_with graph.ids graph.nodes) e c.as_slice-4.result.now) c.as_slice-3.ensures.value
    ∙ ap (network_of (identifiers_with graph.ids graph.nodes) graph.edges) c.as_slice-4.ensures.value

pub returns-clause-made : goal.returns-clause-made
returns-clause-made c = subst (λ n. IfOk c.new.result (λ net. net ≡ n)) (made c) c.new.ensures.made

pub returns-clause-fault : goal.returns-clause-fault
returns-clause-fault c = subst (λ n. IfErr c.new.result (IsFaultOf n)) (made c) c.new.ensures.fault
