use Rattle.std.proofs.Common.{◌≡◌, ℕ, List, Vec, Global, ap, sym, ◌∙◌, subst}
use Rattle.std.specs.Prelude.{IfOk}
use Rattle.std.specs.List.{flat_map, range_with_len}
use Rattle.std.proofs.lemmas.List.Folds.{flat_map-map}
use Rattle.interference.specs.Net.{forest_count_of}
use Rattle.forests.specs.Forests.{forest_edges, triples}
use Rattle.forests.proofs.decomposition.decompose.Goals as goal

pub returns : goal.returns
unfolding triples
returns c =
    let net = c.args.net.now in
    let edges_of = λ (list : Vec (ℕ × ℕ × ℕ) Global). list.items in
    let self = λ (edges : List (ℕ × ℕ × ℕ)). edges in
    let all = range_with_len 0 (forest_count_of net) in
    let is = ap (flat_map edges_of) c.deref.ensures.value ∙ (sym (flat_map-map self edges_of c.in_ok-forests.forests.items)
    ∙ (ap (flat_map self) c.in_ok-forests.ensures ∙ flat_map-map self (forest_edges net) all)) in
    record { triples = subst (λ edges. IfOk c.join.result (λ list. list.items ≡ edges)) is c.join.ensures }
