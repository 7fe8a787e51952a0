-- The forest count of packed lists, one vertex more.
use Rattle.std.proofs.Common.{All, ◌≡◌, ℕ, zero, suc, ◌+◌, ◌-◌, ◌<◌, ◌≤◌, max, count_by, nat_lt, List, [], length, take, drop, get_or, slice_index, sym, ap}
use Rattle.std.proofs.Common.{◌∙◌, arith}
use Rattle.std.proofs.lemmas.List.Elements.{All-same, All-from_get_or}
use Rattle.interference.specs.Net.{IsVertex, neighbours, higher_count, greatest_from}
use Rattle.interference.specs.declared.limits.TheConstants.{MAX_DEGREE}
use Rattle.interference.specs.Rows.{rows, net_from, IsPacked}
use Rattle.interference.proofs.RowsLemmas.{row_at}

greatest_from-more : (f : ℕ → ℕ) (v n : ℕ) → greatest_from f v (n + 1) ≡ max (greatest_from f v n) (f (v + n))
greatest_from-more f v zero =
    let one : 0 + 1 ≡ suc 0 = omega arith in
    let here : v + 0 ≡ v = omega arith in
    let value : f (v + 0) ≡ f v = ap f here in
    ap (greatest_from f v) one ∙ omega arith
greatest_from-more f v (suc n) =
    let one : suc n + 1 ≡ suc (n + 1) = omega arith in
    let there : v + 1 + n ≡ v + suc n = omega arith in
    let value : f (v + 1 + n) ≡ f (v + suc n) = ap f there in
    let more = greatest_from-more f (v + 1) n in
    ap (greatest_from f v) one ∙ omega arith

module _ (ids starts ports bar_starts bars : List ℕ) (p : IsPacked ids starts ports bar_starts bars 0) (i : ℕ) (inside : i < length ids) where
  is_vertex : IsVertex (net_from ids starts ports bar_starts bars 0) (i + 1)
  is_vertex = (omega arith, omega arith)

  -- the part of the list that the code cuts out
  row_here : take (slice_index starts (i + 1) - slice_index starts i) (drop (slice_index starts i) ports)
      ≡ neighbours (net_from ids starts ports bar_starts bars 0) (i + 1)
  row_here =
      let back : i ≡ i + 1 - 1 = omega arith in
      let next : i + 1 ≡ suc i = omega arith in
      ap (λ x. take (slice_index starts x - slice_index starts i) (drop (slice_index starts i) ports)) next
      ∙ sym (row_at starts ports i (omega (arith, p.neighbours.sizes)))
      ∙ ap (λ x. get_or (rows starts ports) x []) back

  pub row_few : length (take (slice_index starts (i + 1) - slice_index starts i) (drop (slice_index starts i) ports)) ≤ MAX_DEGREE
  row_few = rw row_here (p.network.degrees (i + 1) is_vertex)

  pub row_vertices : All (λ w. (1 ≤ w) × (w ≤ length ids)) (take (slice_index starts (i + 1) - slice_index starts i) (drop (slice_index starts i) ports))
  row_vertices =
      All-same (λ w. (1 ≤ w) × (w ≤ length ids)) _ (neighbours (net_from ids starts ports bar_starts bars 0) (i + 1)) row_here
      (All-from_get_or (λ w. (1 ≤ w) × (w ≤ length ids)) (neighbours (net_from ids starts ports bar_starts bars 0) (i + 1)) 0
      (λ port below. p.network.vertices (i + 1) port is_vertex below))

  pub count_here : count_by (λ w. nat_lt (slice_index ids i) (slice_index ids (w - 1))) (take (slice_index starts (i + 1) - slice_index starts i)
      (drop (slice_index starts i) ports))
      ≡ higher_count (net_from ids starts ports bar_starts bars 0) (i + 1)
  count_here =
      let back : i ≡ i + 1 - 1 = omega arith in
      ap (count_by (λ w. nat_lt (slice_index ids i) (slice_index ids (w - 1)))) row_here
      ∙ ap (λ x. count_by (λ w. nat_lt (slice_index ids x) (slice_index ids (w - 1))) (neighbours (net_from ids starts ports bar_starts bars 0) (i + 1))) back

  pub forests-more : (let f = higher_count (net_from ids starts ports bar_starts bars 0) in greatest_from f 1 (i + 1) ≡ max (greatest_from f 1 i) (f (i + 1)))
  forests-more =
      let f = higher_count (net_from ids starts ports bar_starts bars 0) in
      let next : 1 + i ≡ i + 1 = omega arith in
      greatest_from-more f 1 i ∙ ap (λ x. max (greatest_from f 1 i) (f x)) next
