use Rattle.std.proofs.Common.{rules, ◌≡◌, ℕ, ◌+◌, ◌^◌, ◌<◌, ◌≤◌, List, length, replicate, refl, subst, ap, sym, ◌∙◌, arith}
use Rattle.std.proofs.lemmas.List.{length-replicate}
use Rattle.graph_limits.specs.declared.limits.TheConstants.{MAX_BARS}
use Rattle.interference.specs.declared.limits.TheConstants.{MAX_DEGREE}
use Rattle.interference.specs.Net.{IsNetwork, Net, bars_of, greatest_bars_of, greatest_degree_of, forest_count_of}
use Rattle.node_api.specs.Program.{Sizes, own_of, sizes_of, span}
use Rattle.interference.proofs.Neighbours.{bars-within, greatest_bars-within, greatest_degree-within, forest_count-within}
use Rattle.forests.specs.declared.numbering.Role.TheVariants.{Unknown}
use Rattle.colour_rules.specs.InForests.{before_in, colours_in}
use Rattle.std.specs.Ordering.{nat_cmp}
use Rattle.std.specs.FinSet.{FinSet, contains}
use Rattle.forest_merge.specs.Free.{HasFree, least_free_colour}
use Rattle.forest_merge.proofs.Barred.{least_free_colour-at_most}
use Rattle.colour_rules.specs.Node.{HasForests, AreBelow, up_to}
use Rattle.colour_rules.specs.Taken.{barred_in, chosen_in, is_taken_in}
use Rattle.colour_rules.proofs.Barring.{HasFree-barred, HasFree-made, first-colour, made-is}
use Rattle.colour_rules.proofs.Valid.{unknown-known, zeros-below}
use Rattle.colour_rules.proofs.node.ColourNode.make.Goals as goal

pub overflow_cast-greatest_degree : goal.overflow_cast-greatest_degree
overflow_cast-greatest_degree c =
    let few : c.greatest_degree-greatest_degree.result ≤ MAX_DEGREE =
    rw c.greatest_degree-greatest_degree.ensures.value (greatest_degree-within c.args.net.now c.nodes-nodes.ensures.network) in
    search rules

pub overflow_cast-forests : goal.overflow_cast-forests
overflow_cast-forests c =
    let few : greatest_degree_of c.args.net.now ≤ MAX_DEGREE = greatest_degree-within c.args.net.now c.nodes-nodes.ensures.network in
    let fewer : forest_count_of c.args.net.now ≤ greatest_degree_of c.args.net.now = forest_count-within c.args.net.now c.nodes-nodes.ensures.network in
    let here : c.forest_count-forests.result ≤ MAX_DEGREE = rw c.forest_count-forests.ensures.value (omega arith) in
    search rules

pub overflow_cast-greatest_bars : goal.overflow_cast-greatest_bars
overflow_cast-greatest_bars c =
    let few : c.greatest_bars-greatest_bars.result ≤ MAX_BARS =
    rw c.greatest_bars-greatest_bars.ensures (greatest_bars-within c.args.net.now c.nodes-nodes.ensures.network) in
    search rules

pub overflow_add-span : goal.overflow_add-span
overflow_add-span c =
    let few : c.greatest_degree-greatest_degree.result ≤ MAX_DEGREE =
    rw c.greatest_degree-greatest_degree.ensures.value (greatest_degree-within c.args.net.now c.nodes-nodes.ensures.network) in
    let bars : c.greatest_bars-greatest_bars.result ≤ MAX_BARS =
    rw c.greatest_bars-greatest_bars.ensures (greatest_bars-within c.args.net.now c.nodes-nodes.ensures.network) in
    let low : c.greatest_degree-greatest_degree.result + c.greatest_bars-greatest_bars.result < 2 ^ 16 = omega arith in
    search rules

pub make-requires-2 : goal.make-requires-2
make-requires-2 c =
    let few : c.greatest_degree-greatest_degree.result ≤ MAX_DEGREE =
    rw c.greatest_degree-greatest_degree.ensures.value (greatest_degree-within c.args.net.now c.nodes-nodes.ensures.network) in
    let bars : c.greatest_bars-greatest_bars.result ≤ MAX_BARS =
    rw c.greatest_bars-greatest_bars.ensures (greatest_bars-within c.args.net.now c.nodes-nodes.ensures.network) in
    omega arith

-- the bars of a vertex are at most as many as the span
few_bars : (net : Net) → IsNetwork net → (v degree bars : ℕ) (own : List ℕ) → bars ≡ greatest_bars_of net → own ≡ bars_of net v → length own ≤ degree + bars
few_bars net ok v degree bars own most is =
    let within : length own ≤ bars = rw (most, is) (bars-within net ok v) in
    omega arith

pub least_free-requires : goal.least_free-requires
least_free-requires c =
    HasFree-made (c.greatest_degree-greatest_degree.result + c.greatest_bars-greatest_bars.result) c.bars.result.now (chosen_in c.in_ok-taken.taken)
    (barred_in c.in_ok-taken.taken) c.in_ok-taken.ensures.chosen c.in_ok-taken.ensures.barred
    (few_bars c.args.net.now c.nodes-nodes.ensures.network c.args.v c.greatest_degree-greatest_degree.result c.greatest_bars-greatest_bars.result
    c.bars.result.now c.greatest_bars-greatest_bars.ensures c.bars.ensures.value)

pub invariant_of-result : goal.invariant_of-result
invariant_of-result c =
    let net = c.args.net.now in
    let ok : IsNetwork net = c.nodes-nodes.ensures.network in
    let degree : ℕ = c.greatest_degree-greatest_degree.result in
    let bars : ℕ = c.greatest_bars-greatest_bars.result in
    let few : greatest_degree_of net ≤ MAX_DEGREE = greatest_degree-within net ok in
    let fewer : forest_count_of net ≤ greatest_degree_of net = forest_count-within net ok in
    let e : c.forest_count-forests.result ≤ MAX_DEGREE = rw c.forest_count-forests.ensures.value (omega arith) in
    let d : degree ≤ MAX_DEGREE = rw c.greatest_degree-greatest_degree.ensures.value few in
    let b : bars ≤ MAX_BARS = rw c.greatest_bars-greatest_bars.ensures (greatest_bars-within net ok) in
    let roles : c.in_ok-roles.roles.items ≡ replicate c.degree-degree.result Unknown = search rules in
    let n = c.forest_count-forests.result in
    let colours : colours_in c.id.result c.in_ok-colours.colours ≡ replicate n 0 = c.in_ok-colours.ensures.colours c.id.result in
    let before : before_in c.in_ok-colours.colours ≡ replicate n 0 = c.in_ok-colours.ensures.before in
    let size : length (colours_in c.id.result c.in_ok-colours.colours) ≡ n = ap length colours ∙ length-replicate n 0 in
    let kept_size : length (before_in c.in_ok-colours.colours) ≡ n = ap length before ∙ length-replicate n 0 in
    let known : HasForests c.forest_count-forests.result c.in_ok-roles.roles.items =
    subst (HasForests c.forest_count-forests.result) (sym roles) (unknown-known c.forest_count-forests.result c.degree-degree.result) in
    let low : AreBelow 6 (before_in c.in_ok-colours.colours) = subst (AreBelow 6) (sym before) (zeros-below c.forest_count-forests.result) in
    let count : length c.bars.result.now ≤ degree + bars =
    few_bars net ok c.args.v degree bars c.bars.result.now c.greatest_bars-greatest_bars.ensures c.bars.ensures.value in
    let free : HasFree (degree + bars) (is_taken_in c.in_ok-taken.taken) =
    HasFree-made (degree + bars) c.bars.result.now (chosen_in c.in_ok-taken.taken) (barred_in c.in_ok-taken.taken) c.in_ok-taken.ensures.chosen
    c.in_ok-taken.ensures.barred count in
    let unbarred : HasFree (degree + bars) (contains (barred_in c.in_ok-taken.taken)) =
    HasFree-barred (degree + bars) c.bars.result.now (chosen_in c.in_ok-taken.taken) (barred_in c.in_ok-taken.taken) c.in_ok-taken.ensures.chosen
    c.in_ok-taken.ensures.barred count in
    let merged : c.least_free.result ≤ degree + bars =
    subst (λ (colour : ℕ). colour ≤ degree + bars) (sym c.least_free.ensures)
    (least_free_colour-at_most (degree + bars) (is_taken_in c.in_ok-taken.taken) free) in (
      record {
        degree_fits = d;
        bars_fit = b;
        forests_fit = e;
        ports_fit = search rules;
        known = known;
        each_colour = size;
        each_before = kept_size;
        six = low;
        before_low = omega arith;
        merged_low = merged;
        free = unbarred;
      },
      c.in_ok-taken.ensures.room,
    )

pub returns : goal.returns
returns c =
    let net = c.args.net.now in
    let degree : ℕ = c.greatest_degree-greatest_degree.result in
    let bars : ℕ = c.greatest_bars-greatest_bars.result in
    let n = c.forest_count-forests.result in
    let wide : degree + bars ≡ span (sizes_of net) = rw (c.greatest_degree-greatest_degree.ensures.value, c.greatest_bars-greatest_bars.ensures) refl in
    let sizes : ◌≡◌ {A = Sizes} (record { nodes = c.nodes-nodes.result; greatest_degree = degree; greatest_bars = bars; forests = n }) (sizes_of net) =
    rw (
      c.nodes-nodes.ensures.count,
      c.greatest_degree-greatest_degree.ensures.value,
      c.greatest_bars-greatest_bars.ensures,
      c.forest_count-forests.ensures.value,
    ) refl in
    let roles : c.in_ok-roles.roles.items ≡ replicate c.degree-degree.result Unknown = search rules in
    let colours : colours_in c.id.result c.in_ok-colours.colours ≡ replicate n 0 = c.in_ok-colours.ensures.colours c.id.result in
    let before : before_in c.in_ok-colours.colours ≡ replicate n 0 = c.in_ok-colours.ensures.before in
    let barred : up_to (degree + bars) c.bars.result.now ≡ up_to (span (sizes_of net)) (bars_of net c.args.v) =
    ap (λ (k : ℕ). up_to k c.bars.result.now) wide ∙ ap (λ (own : List ℕ). up_to (span (sizes_of net)) own) c.bars.ensures.value in
    let merged = c.least_free.ensures
    ∙ (first-colour (degree + bars) c.bars.result.now (chosen_in c.in_ok-taken.taken) (barred_in c.in_ok-taken.taken) c.in_ok-taken.ensures.chosen
    c.in_ok-taken.ensures.barred
    ∙ (ap (λ (k : ℕ). least_free_colour k (contains (up_to (degree + bars) c.bars.result.now))) wide
    ∙ ap (λ (set : FinSet nat_cmp). least_free_colour (span (sizes_of net)) (contains set)) barred)) in
    made-is (own_of net c.args.v) c.id.result _ c.in_ok-roles.roles.items (colours_in c.id.result c.in_ok-colours.colours)
    (before_in c.in_ok-colours.colours) c.least_free.result (chosen_in c.in_ok-taken.taken) (barred_in c.in_ok-taken.taken) c.id.ensures sizes
    (roles ∙ ap (λ (k : ℕ). replicate k Unknown) c.degree-degree.ensures.value)
    (colours ∙ ap (λ (k : ℕ). replicate k 0) c.forest_count-forests.ensures.value)
    (before ∙ ap (λ (k : ℕ). replicate k 0) c.forest_count-forests.ensures.value) merged c.in_ok-taken.ensures.chosen
    (c.in_ok-taken.ensures.barred ∙ barred)
