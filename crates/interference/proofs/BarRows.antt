-- The packed bars: where those of each vertex stand.
-- Plan: the bars ascend, so before those of v stand all of lesser vertices. The start of v is how many these are.
use Rattle.std.proofs.Common.{◌≡◌, ℕ, zero, suc, ◌+◌, ◌-◌, ◌<◌, ◌≤◌, ◌*◌, ◌^◌, false, inl, inr, List, [], ◌∷◌, length, map, take}
use Rattle.std.proofs.Common.{drop, get_or, slice_index, sum, fold, max, nat_lt, refl, sym, ap, ◌∙◌, arith}
use Rattle.std.specs.List.{All, EachIndex, count_by, filter, range_with_len}
use Rattle.std.specs.List.Sorted.{IsStrictlySortedBy}
use Rattle.std.proofs.lemmas.Bool.{cases_order, lt-ltb, le-ltb, eq-eqb}
use Rattle.std.proofs.lemmas.List.{length-map, take-map, drop-map, same_lists, get_or_default}
use Rattle.std.proofs.lemmas.List.FromFn.{length-map-range_with_len, get_or-map-range_with_len}
use Rattle.std.proofs.lemmas.List.Sums.{count_by-le-length, sum_by-le, sum_by_more}
use Rattle.std.proofs.lemmas.Map.Keys.{sorted_tail}
use Rattle.std.proofs.lemmas.Map.Views.{All-after_first}
use Rattle.graph_limits.specs.declared.limits.TheConstants.{MAX_NODES, MAX_BARS}
use Rattle.graph_limits.specs.Pairs.{is_bar_at, bars_at, pair_cmp}
use Rattle.interference.specs.Filling.{ArePackedBars}
use Rattle.interference.specs.Making.{BarsFit, barred_at, colour_of}
use Rattle.interference.specs.Net.{longest}
use Rattle.interference.specs.Rows.{rows, AreRows}
use Rattle.interference.proofs.RowsLemmas.{row_at}
use Rattle.interference.proofs.BarLists.{length-barred_at}
use Rattle.interference.proofs.BarCounts.{count-no, count-none, count-yes, eq-no, filter-none, pairs-before}
use Rattle.interference.proofs.Packing.{length-rows}
use Rattle.interference.proofs.Starting.{greatest_of_rows}

-- how many bars are of vertices below v
abbrev pub bars_below : List (ℕ × ℕ) → ℕ → ℕ
bars_below bars v = count_by (λ bar. nat_lt bar.0 v) bars

-- ---- the bars of v stand behind those of lesser vertices
pub bars_below-next : (bars : List (ℕ × ℕ)) (v : ℕ) → bars_below bars (v + 1) ≡ bars_below bars v + bars_at bars v
bars_below-next [] v = refl
bars_below-next (b ∷ bs) v =
    let low = λ (bar : ℕ × ℕ). nat_lt bar.0 v in
    let high = λ (bar : ℕ × ℕ). nat_lt bar.0 (v + 1) in
    let more = bars_below-next bs v in
    elim (cases_order b.0 v) [
      | inl same ↦ omega (
        arith,
        more,
        count-no low b bs (le-ltb b.0 v (omega arith)),
        count-yes high b bs (lt-ltb b.0 (v + 1) (omega arith)),
        count-yes (is_bar_at v) b bs (eq-eqb b.0 v same),
      )
      | inr side ↦ elim side [
        | inl lt ↦ omega (
          arith,
          more,
          count-yes low b bs (lt-ltb b.0 v lt),
          count-yes high b bs (lt-ltb b.0 (v + 1) (omega arith)),
          count-no (is_bar_at v) b bs (eq-no b.0 v (omega arith)),
        )
        | inr gt ↦ omega (
          arith,
          more,
          count-no low b bs (le-ltb b.0 v (omega arith)),
          count-no high b bs (le-ltb b.0 (v + 1) (omega arith)),
          count-no (is_bar_at v) b bs (eq-no b.0 v (omega arith)),
        )
      ]
    ]

-- the bars behind the first one of an ascending list are of no lesser vertex
later : (b : ℕ × ℕ) (bs : List (ℕ × ℕ)) → IsStrictlySortedBy pair_cmp (b ∷ bs) → All (λ q. b.0 ≤ q.0) bs
later b bs sorted k d below = (pairs-before b (get_or bs k d) (All-after_first pair_cmp b bs sorted k d below)).0

pub bars-together : (bars : List (ℕ × ℕ)) (v : ℕ) → IsStrictlySortedBy pair_cmp bars →
    take (bars_at bars v) (drop (bars_below bars v) bars) ≡ filter (is_bar_at v) bars
bars-together [] v sorted = refl
bars-together (b ∷ bs) v sorted =
    let low = λ (bar : ℕ × ℕ). nat_lt bar.0 v in
    let after = later b bs sorted in
    let more = bars-together bs v (sorted_tail pair_cmp b bs sorted) in
    elim (cases_order b.0 v) [
      | inl same ↦
          let none : bars_below bs v ≡ 0 = count-none low bs (λ k d below. le-ltb _ v (omega (arith, after k d below))) in
          let here : take (bars_at bs v) bs ≡ filter (is_bar_at v) bs = rw none at more in
          rw (count-no low b bs (le-ltb b.0 v (omega arith)), none, count-yes (is_bar_at v) b bs (eq-eqb b.0 v same), eq-eqb b.0 v same)
          (ap (λ rest. b ∷ rest) here)
      | inr side ↦ elim side [
        | inl lt ↦ rw (count-yes low b bs (lt-ltb b.0 v lt), count-no (is_bar_at v) b bs (eq-no b.0 v (omega arith)), eq-no b.0 v (omega arith)) more
        | inr gt ↦
            let others : All (λ bar. is_bar_at v bar ≡ false) bs = λ k d below. eq-no _ v (omega (arith, after k d below)) in
            rw (
              count-no (is_bar_at v) b bs (eq-no b.0 v (omega arith)),
              count-none (is_bar_at v) bs others,
              eq-no b.0 v (omega arith),
              filter-none (is_bar_at v) bs others,
            ) refl
      ]
    ]

-- ---- the starts
pub sum-is_below : (n : ℕ) (bars : List (ℕ × ℕ)) (counts : List ℕ) → length counts ≡ n + 1 → ((v : ℕ) → v ≤ n → slice_index counts v ≡ bars_at bars v) →
    (w : ℕ) → w ≤ n + 1 → sum (take w counts) ≡ bars_below bars w
sum-is_below n bars counts size each zero low = sym (count-none (λ bar. nat_lt bar.0 0) bars (λ k d below. le-ltb _ 0 (omega arith)))
sum-is_below n bars counts size each (suc w) low =
    let next : suc w ≡ w + 1 = omega arith in
    rw next (omega (
      arith,
      sum_by_more (λ x. x) counts w 0 (omega arith),
      sum-is_below n bars counts size each w (omega arith),
      each w (omega arith),
      bars_below-next bars w,
    ))

module _ (n : ℕ) (bars : List (ℕ × ℕ)) (fit : BarsFit n bars) (counts starts : List ℕ) (size : length counts ≡ n + 1)
    (each : (v : ℕ) → v ≤ n → slice_index counts v ≡ bars_at bars v) (long : length starts ≡ length counts)
    (sums : EachIndex starts (λ i. slice_index starts i ≡ sum (take (i + 1) counts))) where
  start-is : (v : ℕ) → v ≤ n → slice_index starts v ≡ bars_below bars (v + 1)
  start-is v high = sums v (omega arith) ∙ sum-is_below n bars counts size each (v + 1) (omega arith)

  start-next : (v : ℕ) → v < n → slice_index starts (v + 1) ≡ slice_index starts v + bars_at bars (v + 1)
  start-next v high = omega (arith, start-is (v + 1) (omega arith), start-is v (omega arith), bars_below-next bars (v + 1))

  abbrev colours : List ℕ
  colours = map colour_of bars

  are_rows : AreRows n starts colours
  are_rows = record {
    sizes = omega arith;
    rising = λ i below. omega (arith, start-next i below);
    within = λ i below. omega (arith, start-is i below, length-map bars colour_of, count_by-le-length (λ bar. nat_lt bar.0 (i + 1)) bars);
  }

  row-is : (i : ℕ) → i < n → get_or (rows starts colours) i [] ≡ barred_at bars (i + 1)
  row-is i below =
      let next : suc i ≡ i + 1 = omega arith in
      let start : get_or starts i 0 ≡ bars_below bars (i + 1) = start-is i (omega arith) in
      let count : get_or starts (suc i) 0 - get_or starts i 0 ≡ bars_at bars (i + 1) = rw next (omega (arith, start-next i below)) in
      row_at starts colours i (omega arith)
      ∙ rw (count, start) (ap (take (bars_at bars (i + 1))) (drop-map colour_of (bars_below bars (i + 1)) bars)
      ∙ take-map colour_of (bars_at bars (i + 1)) (drop (bars_below bars (i + 1)) bars)
      ∙ ap (map colour_of) (bars-together bars (i + 1) fit.ascending))

  rows-are : rows starts colours ≡ map (barred_at bars) (range_with_len 1 n)
  rows-are =
      let wanted = map (barred_at bars) (range_with_len 1 n) in
      same_lists (rows starts colours) wanted
      (omega (arith, length-rows starts colours, length-map-range_with_len (barred_at bars) 1 n))
      (λ k d below.
      let inside : k < n = omega (arith, length-rows starts colours) in
      get_or_default (rows starts colours) k d [] below ∙ row-is k inside
      ∙ sym (get_or-map-range_with_len (barred_at bars) 1 n k (k + 1) d inside (omega arith)))

  -- no bar is of vertex 0
  none_at_zero : bars_at bars 0 ≡ 0
  none_at_zero = count-none (is_bar_at 0) bars (λ k d below. eq-no _ 0 (omega (arith, fit.bars_fit k d below)))

  greatest-is : fold max 0 counts ≡ longest (rows starts colours)
  greatest-is =
      greatest_of_rows counts (rows starts colours) (omega (arith, length-rows starts colours)) (omega (arith, each 0 (omega arith), none_at_zero))
      (λ k below.
      let inside : k < n = omega (arith, length-rows starts colours) in
      let next : suc k ≡ k + 1 = omega arith in
      rw next (each (k + 1) (omega arith)) ∙ sym (length-barred_at bars (k + 1)) ∙ ap length (sym (row-is k inside)))

  pub packed-bars : (greatest : ℕ) → greatest ≡ fold max 0 counts → ArePackedBars n bars starts (map colour_of bars) greatest
  packed-bars greatest is = record {
    fit = are_rows;
    are = rows-are;
    greatest_is = is ∙ greatest-is;
  }

-- ---- so few that they can be counted
pub sum-small : (n : ℕ) (bars : List (ℕ × ℕ)) (counts : List ℕ) → BarsFit n bars → n ≤ MAX_NODES → length counts ≡ n + 1 →
    ((v : ℕ) → v ≤ n → slice_index counts v ≡ bars_at bars v) → sum counts < 2 ^ 32
sum-small n bars counts fit small size each =
    let most : sum counts ≤ length counts * MAX_BARS = sum_by-le (λ x. x) MAX_BARS counts
    (λ k d below. omega (arith, get_or_default counts k d 0 below, each k (omega arith), fit.few k)) in
    omega arith
