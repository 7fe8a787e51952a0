-- The network that a set of edges makes has as many edges as the set.
-- Plan: the degree of v is the number of edges that end in it; each edge ends in two vertices; so all degrees are twice the edges.
use Rattle.std.proofs.Common.{◌≡◌, ℕ, ◌+◌, ◌*◌, ◌≤◌, ◌==◌, if◌then◌else◌, cond, List, length, get_or, Some, sym, ap, ◌∙◌, arith}
use Rattle.std.specs.List.{sum_by, range_with_len}
use Rattle.std.proofs.Math.Nat.{mul_comm}
use Rattle.std.proofs.lemmas.Bool.Decides.{nat_tests}
use Rattle.std.proofs.lemmas.List.Elements.{Contains-get_or}
use Rattle.graph_limits.specs.Pairs.{FitsIn}
use Rattle.interference.specs.Net.{IsNetwork, degree_of}
use Rattle.interference.specs.Making.{EdgesFit, network_of}
use Rattle.interference.specs.Filling.{touches, degree_in}
use Rattle.interference.specs.Counts.{degree_sum_of, edge_count_of}
use Rattle.interference.proofs.Made.{ids-network_of, neighbours-network_of}
use Rattle.interference.proofs.Members.{range-bounds}
use Rattle.interference.proofs.RowIn.{length-row_in}
use Rattle.interference.proofs.SameRow.{same_row}
use Rattle.interference.proofs.Sums.{sum_by-same, sum_by-const, sum_by-add, sum_by-swap, sum_by-one}
use Rattle.interference.proofs.TwoEnds.{degrees-are_twice_edges}

-- an edge ends in two of the vertices
two_ends : (n : ℕ) (edge : ℕ × ℕ) → FitsIn (Some n) edge → sum_by (λ v. cond (touches v edge) 1 0) (range_with_len 1 n) ≡ 2
two_ends n edge fits =
    let vs = range_with_len 1 n in
    let first : ℕ → ℕ = λ v. if edge.0 == v then 1 else 0 in
    let second : ℕ → ℕ = λ v. if edge.1 == v then 1 else 0 in
    let parts : sum_by (λ v. cond (touches v edge) 1 0) vs ≡ sum_by (λ v. first v + second v) vs = sum_by-same _ _ vs
    (λ k d lt. apart (get_or vs k d)) in
    omega (
      arith,
      parts,
      sum_by-add first second vs,
      sum_by-one edge.0 1 n 1 (omega (arith, fits.0)) (omega (arith, fits.1, fits.2)),
      sum_by-one edge.1 1 n 1 (omega (arith, fits.0, fits.1)) (omega (arith, fits.2)),
    )
  where
    apart : (v : ℕ) → cond (touches v edge) 1 0 ≡ (if edge.0 == v then 1 else 0) + (if edge.1 == v then 1 else 0)
    apart v = grind (arith, nat_tests, fits.1)

-- the edges at every vertex
all_ends : (n : ℕ) (edges : List (ℕ × ℕ)) → EdgesFit n edges → sum_by (λ v. degree_in edges v) (range_with_len 1 n) ≡ 2 * length edges
unfolding degree_in
all_ends n edges fit =
    sum_by-swap (λ v edge. cond (touches v edge) 1 0) (range_with_len 1 n) edges
    ∙ sum_by-same _ _ edges (λ k d lt. two_ends n (get_or edges k d) (fit.limits.edges_fit _ (Contains-get_or edges k d lt)))
    ∙ sum_by-const 2 edges
    ∙ mul_comm (length edges) 2

module _ (ids : List ℕ) (edges bars : List (ℕ × ℕ)) (fit : EdgesFit (length ids) edges) where
  degree-is : (v : ℕ) → 1 ≤ v → v ≤ length ids → degree_of (network_of ids edges bars) v ≡ degree_in edges v
  degree-is v low high =
      ap length (neighbours-network_of ids edges bars v low high ∙ sym (same_row (length ids) edges fit v)) ∙ length-row_in edges v

  degree_sum-is : degree_sum_of (network_of ids edges bars) ≡ sum_by (λ v. degree_in edges v) (range_with_len 1 (length ids))
  degree_sum-is =
      ap (λ ks. sum_by (degree_of (network_of ids edges bars)) (range_with_len 1 (length ks))) (ids-network_of ids edges bars)
      ∙ sum_by-same _ _ (range_with_len 1 (length ids)) (λ k d lt.
      let bounds = range-bounds 1 (length ids) k d lt in
      degree-is _ bounds.0 (omega (arith, bounds.1)))

  pub edge_count-is : IsNetwork (network_of ids edges bars) → edge_count_of (network_of ids edges bars) ≡ length edges
  edge_count-is ok = omega (arith, degrees-are_twice_edges (network_of ids edges bars) ok, degree_sum-is, all_ends (length ids) edges fit)
