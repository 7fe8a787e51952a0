-- The colours that a list of bars bars at one vertex: as many as the vertex has bars, small, ascending.
use Rattle.std.proofs.Common.{◌≡◌, ℕ, ◌<◌, List, Some, length, get_or, sym, ◌∙◌, arith}
use Rattle.std.specs.List.{All, Contains, filter}
use Rattle.std.proofs.lemmas.Bool.Decides.{nat_tests}
use Rattle.std.proofs.lemmas.List.{length-map, get_or-map}
use Rattle.std.proofs.lemmas.List.Elements.{All-filter, All-map, All-contains, filter_passes}
use Rattle.std.proofs.lemmas.List.Kept.{IsStrictlySortedBy-filter}
use Rattle.std.proofs.lemmas.List.Sums.{length-filter}
use Rattle.std.proofs.lemmas.Map.Keys.{Less-from_sorted}
use Rattle.graph_limits.specs.Pairs.{IsBarOf, is_bar_at, bars_at, pair_cmp}
use Rattle.graph_limits.specs.declared.limits.TheConstants.{MAX_CHANNEL}
use Rattle.interference.proofs.BarCounts.{pairs-before}
use Rattle.interference.specs.Making.{BarsFit, barred_at, colour_of}

pub length-barred_at : (bars : List (ℕ × ℕ)) (v : ℕ) → length (barred_at bars v) ≡ bars_at bars v
length-barred_at bars v = length-map (filter (is_bar_at v) bars) colour_of ∙ length-filter (is_bar_at v) bars

module _ (n : ℕ) (bars : List (ℕ × ℕ)) (fit : BarsFit n bars) (v : ℕ) where
  pub barred_at-small : (colour : ℕ) → Contains (barred_at bars v) colour → colour < MAX_CHANNEL
  barred_at-small colour h =
      All-contains (λ c. c < MAX_CHANNEL) (barred_at bars v) colour
      (All-map (λ c. c < MAX_CHANNEL) colour_of (filter (is_bar_at v) bars)
      (λ k d below. let bar = All-filter (is_bar_at v) (IsBarOf (Some n)) bars fit.bars_fit k d below in omega (arith, bar))) h

  pub barred_at-ascends : (i j : ℕ) → i < j → j < length (barred_at bars v) → get_or (barred_at bars v) i 0 < get_or (barred_at bars v) j 0
  barred_at-ascends i j less below =
      let mine = filter (is_bar_at v) bars in
      let inside : j < length mine = omega (arith, length-map mine colour_of) in
      let low = get_or mine i (0, 0) in
      let high = get_or mine j (0, 0) in
      let of_v : All (λ bar. bar.0 ≡ v) mine =
      λ k d in_mine. let yes = filter_passes (is_bar_at v) bars k d in_mine in grind (arith, nat_tests) in
      let first = All-filter (is_bar_at v) (IsBarOf (Some n)) bars fit.bars_fit i (0, 0) (omega arith) in
      let order = Less-from_sorted pair_cmp mine i j (0, 0) (IsStrictlySortedBy-filter pair_cmp (is_bar_at v) bars fit.ascending) less inside in
      let channels : low.1 < high.1 = (pairs-before low high order).1 (of_v i (0, 0) (omega arith) ∙ sym (of_v j (0, 0) inside)) in
      omega (arith, first, channels, get_or-map colour_of mine i (0, 0) 0 (omega arith), get_or-map colour_of mine j (0, 0) 0 inside)
