-- The vertices that a set of edges joins to one.
use Rattle.std.proofs.Common.{◌≡◌, ◌≢◌, ℕ, ◌+◌, ◌<◌, ◌≤◌, true, List, refl, ap, sym, ◌∙◌, arith, min, max}
use Rattle.std.specs.Bool.{Decides}
use Rattle.std.specs.List.{Contains, range_with_len}
use Rattle.std.specs.List.Sorted.{IsStrictlySortedBy}
use Rattle.std.specs.Ordering.{nat_cmp}
use Rattle.std.proofs.Math.Nat.{min_comm, max_comm}
use Rattle.std.proofs.lemmas.List.Elements.{All-contains}
use Rattle.std.proofs.lemmas.List.Kept.{IsStrictlySortedBy-filter}
use Rattle.std.proofs.lemmas.Map.Made.{is_member-Decides}
use Rattle.graph_limits.specs.Pairs.{same_pair, IsWithinLimits}
use Rattle.graph_limits.proofs.Pairs.{same_pair-laws, same_pair-exact}
use Rattle.interference.specs.Making.{joins, joined_to}
use Rattle.interference.proofs.Members.{Contains-filter, Contains-from_filter, passes-from_filter, Contains-range, range-bounds, range-ascends}

pub same_pair-decides : (p q : ℕ × ℕ) → Decides (same_pair p q) (p ≡ q)
same_pair-decides p q = (
  (λ e. same_pair-exact p q e),
  (λ e. ap (same_pair p) (sym e) ∙ same_pair-laws.refl p),
)

pub joins-decides : (edges : List (ℕ × ℕ)) (v w : ℕ) → Decides (joins edges v w) (Contains edges (min v w, max v w))
joins-decides edges v w = is_member-Decides same_pair-decides edges (min v w, max v w)

pub joins-swap : (edges : List (ℕ × ℕ)) (v w : ℕ) → joins edges v w ≡ joins edges w v
joins-swap edges v w = rw (min_comm v w, max_comm v w) refl

pub joins-other : (n : ℕ) (edges : List (ℕ × ℕ)) (v w : ℕ) → IsWithinLimits n edges → joins edges v w ≡ true → w ≢ v
joins-other n edges v w fits joined same =
    let there : Contains edges (min v w, max v w) = (joins-decides edges v w).0 joined in
    let low : min v w < max v w = (fits.edges_fit (min v w, max v w) there).1 in
    omega arith

module _ (n : ℕ) (edges : List (ℕ × ℕ)) (v : ℕ) where
  pub Contains-joined_to : (w : ℕ) → 1 ≤ w → w ≤ n → joins edges v w ≡ true → Contains (joined_to n edges v) w
  Contains-joined_to w low high joined = Contains-filter (joins edges v) (range_with_len 1 n) w (Contains-range 1 n w low (omega arith)) joined

  pub joins-from_joined_to : (w : ℕ) → Contains (joined_to n edges v) w → joins edges v w ≡ true
  joins-from_joined_to w h = passes-from_filter (joins edges v) (range_with_len 1 n) w h

  pub bounds-from_joined_to : (w : ℕ) → Contains (joined_to n edges v) w → (1 ≤ w) × (w ≤ n)
  bounds-from_joined_to w h =
      let both : (1 ≤ w) × (w < 1 + n) = All-contains (λ x. (1 ≤ x) × (x < 1 + n)) (range_with_len 1 n) w (range-bounds 1 n)
      (Contains-from_filter (joins edges v) (range_with_len 1 n) w h) in
      (both.0, omega arith)

  pub joined_to-ascends : IsStrictlySortedBy nat_cmp (joined_to n edges v)
  joined_to-ascends = IsStrictlySortedBy-filter nat_cmp (joins edges v) (range_with_len 1 n) (range-ascends 1 n)
