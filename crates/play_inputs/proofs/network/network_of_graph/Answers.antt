-- The plan: the identifiers are those of the graph as they are set (ids), so the network is the one of these (made), and what
-- holds of it, repeated as it is set, holds of the network of the graph as it is set (of-graph).
use Rattle.std.proofs.Common.{◌≡◌, ◌∙◌, ap, length, subst, sym}
use Rattle.std.proofs.lemmas.List.FromFn.{length-map-range_with_len}
use Rattle.std.proofs.lemmas.Result.{err_from_is_err_and}
use Rattle.std.specs.Option.{unwrap_or}
use Rattle.graph_limits.specs.Pairs.{AreVertices}
use Rattle.dimacs_col.specs.Reading.{graph_of, id_in}
use Rattle.interference.specs.Making.{IsFaultOf, network_of}
use Rattle.interference.specs.Net.{IsNetwork}
use Rattle.interference.specs.declared.fault.NetFault.TheVariants.{Memory}
use Rattle.plan_answers.specs.Answers.{identifiers_with}
use Rattle.play_inputs.specs.Settings.{IsRootAmong, repeated_as, set_ids}
use Rattle.play_inputs.proofs.Settings.{length-set, of-graph, still-fault, still-network}
use Rattle.play_inputs.proofs.network.network_of_graph.Goals as goal

pub identifiers-requires : goal.identifiers-requires
identifiers-requires c = subst (AreVertices c.args.graph.now.nodes) (sym c.as_slice.ensures.value) c.requires.vertices

pub returns-in_default-clause-fault : goal.returns-in_default-clause-fault
returns-in_default-clause-fault c = of-graph c.args.setting (graph_of c.args.graph.now) (λ made. IsFaultOf made Memory) c.requires.root tt

pub set_ids-requires : goal.set_ids-requires
set_ids-requires c =
    let long : length c.in-Ok.ids.items ≡ c.args.graph.now.nodes =
    ap length c.in-Ok.ensures ∙ length-map-range_with_len (λ v. unwrap_or (id_in c.as_slice.result.now v) v) 1 c.args.graph.now.nodes in
    subst (IsRootAmong c.args.setting) (sym long) c.requires.root

pub returns-in_default-set_ids-clause-fault : goal.returns-in_default-set_ids-clause-fault
returns-in_default-set_ids-clause-fault c =
    of-graph c.args.setting (graph_of c.args.graph.now) (λ made. IsFaultOf made Memory) c.requires.root tt

pub new-requires-clause-ids : goal.new-requires-clause-ids
new-requires-clause-ids c =
    ap length (c.as_slice-2.ensures.value ∙ c.in-Ok-set_ids.ensures) ∙ length-set c.args.setting c.in-Ok.ids.items ∙ ap length c.in-Ok.ensures ∙
    length-map-range_with_len (λ v. unwrap_or (id_in c.as_slice.result.now v) v) 1 c.args.graph.now.nodes

pub returns-in_err-network-clause-fault : goal.returns-in_err-network-clause-fault
returns-in_err-network-clause-fault c =
    let graph = graph_of c.args.graph.now in
    let setting = c.args.setting in
    let ids : c.as_slice-2.result.now ≡ set_ids setting (identifiers_with graph.ids graph.nodes) =
    c.as_slice-2.ensures.value ∙ c.in-Ok-set_ids.ensures
    ∙ ap (set_ids setting) (c.in-Ok.ensures ∙ ap (λ given. identifiers_with given graph.nodes) c.as_slice.ensures.value) in
    let made : network_of c.as_slice-2.result.now c.as_slice-3.result.now c.as_slice-4.result.now
    ≡ network_of (set_ids setting (identifiers_with graph.ids graph.nodes)) graph.edges graph.bars =
    ap (λ i. network_of i c.as_slice-3.result.now c.as_slice-4.result.now) ids
    ∙ ap (λ e. network_of (set_ids setting (identifiers_with graph.ids graph.nodes)) e c.as_slice-4.result.now) c.as_slice-3.ensures.value
    ∙ ap (network_of (set_ids setting (identifiers_with graph.ids graph.nodes)) graph.edges) c.as_slice-4.ensures.value in
    let fault = c.in_err-network.field-0.0 in
    let p = err_from_is_err_and c.from_residual.result c.from_residual.ensures.1 in
    rw (p.1, p.2) (of-graph setting graph (λ n. IsFaultOf n fault) c.requires.root
    (still-fault setting _ fault (subst (λ n. IsFaultOf n fault) made c.in_err-network.ensures.fault)))

pub returns-clause-ok : goal.returns-clause-ok
returns-clause-ok c =
    let graph = graph_of c.args.graph.now in
    let setting = c.args.setting in
    let net = c.in_ok-network.network in
    let ids : c.as_slice-2.result.now ≡ set_ids setting (identifiers_with graph.ids graph.nodes) =
    c.as_slice-2.ensures.value ∙ c.in-Ok-set_ids.ensures
    ∙ ap (set_ids setting) (c.in-Ok.ensures ∙ ap (λ given. identifiers_with given graph.nodes) c.as_slice.ensures.value) in
    let made : net ≡ network_of (set_ids setting (identifiers_with graph.ids graph.nodes)) graph.edges graph.bars =
    c.in_ok-network.ensures.made
    ∙ ap (λ i. network_of i c.as_slice-3.result.now c.as_slice-4.result.now) ids
    ∙ ap (λ e. network_of (set_ids setting (identifiers_with graph.ids graph.nodes)) e c.as_slice-4.result.now) c.as_slice-3.ensures.value
    ∙ ap (network_of (set_ids setting (identifiers_with graph.ids graph.nodes)) graph.edges) c.as_slice-4.ensures.value in
    of-graph setting graph (λ n. IsNetwork n × (c.repeated_as.result ≡ n)) c.requires.root (
      still-network setting _ (subst (λ n. IsNetwork n) made c.in_ok-network.ensures.network),
      c.repeated_as.ensures ∙ ap (repeated_as setting) made,
    )

pub returns-clause-network : goal.returns-clause-network
returns-clause-network c =
    subst (λ n. IsNetwork n) (sym c.repeated_as.ensures) (still-network c.args.setting c.in_ok-network.network c.in_ok-network.ensures.network)
