use Rattle.std.proofs.Common.{◌≡◌, ◌≤◌, ◌-◌, ℕ, Vec, Global, [], length, get_or, map, ap, ◌∙◌, arith}
use Rattle.std.specs.List.{filter_map, range_with_len}
use Rattle.std.proofs.lemmas.List.{length-map, with_items_is}
use Rattle.interference.specs.Net.{forest_count_of, count_of, higher_count}
use Rattle.interference.proofs.Neighbours.{higher_count-le-forests, forest_count-within, greatest_degree-within}
use Rattle.forests.specs.Forests.{up, forest_edges, edge_up}
use Rattle.forests.specs.Dealing.{with_id, edge_at}
use Rattle.forests.proofs.Highers.{length-up}
use Rattle.forests.proofs.Dealing.{vertex-dealt, forests-are}
use Rattle.forests.proofs.decomposition.deal_all.Goals as goal

pub deal-requires-clause-room : goal.deal-requires-clause-room
deal-requires-clause-room c =
    let net = c.args.net.now in
    let v = c.loop-v.v in
    let parents : length c.deref.result.now ≡ length (up net v) = ap length (c.deref.ensures.value ∙ c.in_ok-order_parents.ensures) ∙
    length-map (up net v) (with_id net) in
    let few : higher_count net v ≤ forest_count_of net = higher_count-le-forests net c.nodes-v-end.ensures.network v (omega arith, omega arith) in
    let rows : length c.deref_mut.result.now ≡ length c.loop-v.forests.items = ap length c.deref_mut.ensures.value in
    omega (arith, parents, length-up net v, few, rows, c.loop-v.invariant.0)

pub deal-requires-clause-few : goal.deal-requires-clause-few
deal-requires-clause-few c =
    let net = c.args.net.now in
    let rows : length c.deref_mut.result.now ≡ length c.loop-v.forests.items = ap length c.deref_mut.ensures.value in
    omega (arith, rows, c.loop-v.invariant.0, forest_count-within net c.nodes-v-end.ensures.network, greatest_degree-within net c.nodes-v-end.ensures.network)

pub loop-v-preserved : goal.loop-v-preserved
loop-v-preserved c =
    let net = c.args.net.now in
    let v = c.loop-v.v in
    let edges_of = λ (list : Vec (ℕ × ℕ × ℕ) Global). list.items in
    let rows : length c.deref_mut.result.now ≡ length c.loop-v.forests.items = ap length c.deref_mut.ensures.value in
    let count : length c.deal.new.forests ≡ length c.loop-v.forests.items = c.deal.ensures.same_count ∙ ap length c.deref_mut.ensures.value in
    let kept = with_items_is c.loop-v.forests c.deal.new.forests (omega (arith, count, c.loop-v.forests.ok)) in (
      ap length kept ∙ (count ∙ c.loop-v.invariant.0),
      λ f below.
          let before = ap (λ rows. get_or (map edges_of rows) f []) c.deref_mut.ensures.value ∙ c.loop-v.invariant.1 f below in
          let dealt = ap (λ parents. edge_at f v parents) (c.deref.ensures.value ∙ c.in_ok-order_parents.ensures) in
          ap (λ rows. get_or (map edges_of rows) f []) kept
          ∙ vertex-dealt net f v _ _ _ (omega arith) before dealt (c.in_ok-deal.ensures.dealt f (omega (arith, rows, c.loop-v.invariant.0))),
    )

pub returns : goal.returns
returns c =
    let net = c.args.net.now in
    let edges_of = λ (list : Vec (ℕ × ℕ × ℕ) Global). list.items in
    let rows = map edges_of c.loop-v.forests.items in
    let all : c.loop-v.v - 1 ≡ count_of net = omega (arith, c.loop-v.auto.v-end (omega arith)) in
    forests-are (forest_edges net) rows (forest_count_of net) (length-map c.loop-v.forests.items edges_of ∙ c.loop-v.invariant.0)
    (λ f below. c.loop-v.invariant.1 f below ∙ ap (λ n. filter_map (edge_up net f) (range_with_len 1 n)) all)
