-- The neighbours of higher identifier, in order: how many they are, and that a sort gives them.
use Rattle.std.proofs.Common.{◌≡◌, ◌≢◌, ℕ, ◌<◌, List, length, get_or, map, ap, sym, ◌∙◌, arith}
use Rattle.std.specs.Prelude.{nat_lt}
use Rattle.std.specs.List.Sorted.{IsPermutation, IsNonDecreasingBy}
use Rattle.std.proofs.lemmas.List.{get_or_default, get_or-map, length-map}
use Rattle.std.proofs.lemmas.List.Kept.{AllPairs-filter}
use Rattle.std.proofs.lemmas.List.Sums.{length-filter}
use Rattle.std.proofs.lemmas.List.Sorted.{length_permutation}
use Rattle.interference.specs.Net.{Net, IsNetwork, IsVertex, id_of, neighbours, higher_count}
use Rattle.forests.specs.Order.{in_order, HasDistinctKeys}
use Rattle.forests.specs.Forests.{higher, up}
use Rattle.forests.specs.Dealing.{with_id}
use Rattle.forests.proofs.Orders.{order-moves}
use Rattle.forests.proofs.Sorts.{order-map, sorted-is_in_order}

module _ (net : Net) (ok : IsNetwork net) (v : ℕ) (vertex : IsVertex net v) where
  pub neighbours-apart : HasDistinctKeys (id_of net) (neighbours net v)
  neighbours-apart = λ i j d l m same.
      let a : get_or (neighbours net v) i 0 ≡ get_or (neighbours net v) i d = get_or_default (neighbours net v) i 0 d (omega arith) in
      let b : get_or (neighbours net v) j 0 ≡ get_or (neighbours net v) j d = get_or_default (neighbours net v) j 0 d m in
      let ids : id_of net (get_or (neighbours net v) i 0) ≡ id_of net (get_or (neighbours net v) j 0) = ap (id_of net) a ∙ (same ∙ sym (ap (id_of net) b)) in
      let e : get_or (neighbours net v) i 0 ≡ get_or (neighbours net v) j 0 =
      ok.distinct _ _ (ok.vertices v i vertex (omega arith)) (ok.vertices v j vertex m) ids in
      let less : get_or (neighbours net v) i 0 < get_or (neighbours net v) j 0 = ok.ascending v i j vertex l m in
      omega arith

  pub higher-apart : HasDistinctKeys (id_of net) (higher net v)
  higher-apart = AllPairs-filter (λ a b. id_of net a ≢ id_of net b) (λ w. nat_lt (id_of net v) (id_of net w)) (neighbours net v) neighbours-apart

  -- a sort by identifier gives the higher neighbours in order
  pub sorted-is_up : (sorted : List (ℕ × ℕ)) → IsPermutation (map (with_id net) (higher net v)) sorted → IsNonDecreasingBy (λ p. p.0) sorted →
      sorted ≡ map (with_id net) (up net v)
  unfolding up
  sorted-is_up sorted moved rising =
      let key : ℕ × ℕ → ℕ = λ p. p.0 in
      let hs : List ℕ = higher net v in
      let apart : HasDistinctKeys (λ (p : ℕ × ℕ). p.0) (map (with_id net) hs) = λ i j d l m same.
      (let long : j < length hs = rw (length-map hs (with_id net)) at m in
      higher-apart i j 0 l long (ap (λ (p : ℕ × ℕ). p.0) (sym (get_or-map (with_id net) hs i 0 d (omega arith))) ∙
      (same ∙ ap (λ (p : ℕ × ℕ). p.0) (get_or-map (with_id net) hs j 0 d long)))) in
      sorted-is_in_order (λ (p : ℕ × ℕ). p.0) (map (with_id net) hs) sorted apart moved rising ∙ order-map (λ (p : ℕ × ℕ). p.0) (with_id net) hs

pub length-up : (net : Net) (v : ℕ) → length (up net v) ≡ higher_count net v
unfolding up
length-up net v = length_permutation (higher net v) (in_order (id_of net) (higher net v)) (order-moves (id_of net) (higher net v)) ∙
    length-filter (λ w. nat_lt (id_of net v) (id_of net w)) (neighbours net v)
