-- Sums over every vertex and each of its ports.
use Rattle.std.proofs.Common.{◌≡◌, ℕ, ◌+◌, ◌*◌, ◌<◌, List, get_or, ap, ◌∙◌, arith}
use Rattle.std.specs.List.{All, sum_by, range_with_len}
use Rattle.std.proofs.lemmas.List.FromFn.{length-range_with_len}
use Rattle.interference.specs.Net.{Net, IsVertex, count_of, vertices, neighbours, degree_of, neighbour_of}
use Rattle.interference.specs.Counts.{sum_over_ports, degree_sum_of}
use Rattle.interference.proofs.Members.{range-bounds}
use Rattle.interference.proofs.Sums.{sum_by-same, sum_by-add, sum_by-const, sum_by-times, sum_by-places}

module _ (net : Net) where
  pub at_vertices : All (λ v. IsVertex net v) (vertices net)
  at_vertices k d lt = let in_range = range-bounds 1 (count_of net) k d lt in (in_range.0, omega (arith, in_range.1))

  pub ports-same : (f g : ℕ → ℕ → ℕ) → ((v i : ℕ) → IsVertex net v → i < degree_of net v → f v i ≡ g v i) → sum_over_ports net f ≡ sum_over_ports net g
  ports-same f g same =
      let vs = vertices net in
      sum_by-same _ _ vs (λ k d lt.
      let v = get_or vs k d in
      sum_by-same (f v) (g v) (range_with_len 0 (degree_of net v)) (λ j e below.
      let bounds = range-bounds 0 (degree_of net v) j e below in
      same v _ (at_vertices k d lt) (omega (arith, bounds.1))))

  pub ports-add : (f g : ℕ → ℕ → ℕ) → sum_over_ports net (λ v i. f v i + g v i) ≡ sum_over_ports net f + sum_over_ports net g
  ports-add f g =
      let vs = vertices net in
      let ports : ℕ → List ℕ = λ v. range_with_len 0 (degree_of net v) in
      sum_by-same _ _ vs (λ k d lt. sum_by-add (f (get_or vs k d)) (g (get_or vs k d)) (ports (get_or vs k d)))
      ∙ sum_by-add (λ v. sum_by (f v) (ports v)) (λ v. sum_by (g v) (ports v)) vs

  pub ports-const : (c : ℕ) → sum_over_ports net (λ v i. c) ≡ degree_sum_of net * c
  ports-const c =
      let vs = vertices net in
      sum_by-same _ _ vs (λ k d lt.
      let degree = degree_of net (get_or vs k d) in
      sum_by-const c (range_with_len 0 degree) ∙ ap (λ n. n * c) (length-range_with_len 0 degree))
      ∙ sum_by-times (degree_of net) c vs

  -- by the neighbours at the ports
  pub ports-are : (f : ℕ → ℕ → ℕ) → sum_over_ports net (λ v i. f v (neighbour_of net v i)) ≡ sum_by (λ v. sum_by (f v) (neighbours net v)) (vertices net)
  ports-are f = sum_by-same _ _ (vertices net) (λ k d lt. sum_by-places (f (get_or (vertices net) k d)) (neighbours net (get_or (vertices net) k d)) 0)
