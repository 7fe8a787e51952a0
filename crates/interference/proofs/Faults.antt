-- What the degrees and the identifiers tell of the faults of the network that they are of.
use Rattle.std.proofs.Common.{All, ◌≡◌, ◌⊎◌, ⊎_elim, ℕ, ◌<◌, ◌≤◌, List, length, slice_index, sym, ap, ◌∙◌, arith}
use Rattle.std.proofs.lemmas.Bool.{cases_lt}
use Rattle.interference.specs.Net.{IsVertex, degree_of}
use Rattle.interference.specs.declared.limits.TheConstants.{MAX_DEGREE}
use Rattle.interference.specs.Making.{EdgesFit, network_of, IsCrowded, HaveSameId}
use Rattle.interference.specs.Filling.{AreDegrees, IsFirstCrowded, HasNoSameId, IsFirstSameId}
use Rattle.interference.proofs.Made.{neighbours-network_of, is_vertex}
use Rattle.interference.proofs.RowIn.{length-row_in}
use Rattle.interference.proofs.SameRow.{same_row}
use Rattle.interference.proofs.Starting.{degree_in-zero}

module _ (ids : List ℕ) (edges bars : List (ℕ × ℕ)) where
  vertex_from : (v : ℕ) → 1 ≤ v → v ≤ length ids → IsVertex (network_of ids edges bars) v
  unfolding network_of
  vertex_from v low high = (low, high)

  module _ (degrees : List ℕ) (fit : EdgesFit (length ids) edges) (are : AreDegrees (length ids) edges degrees) where
    degree_is : (v : ℕ) → 1 ≤ v → v ≤ length ids → degree_of (network_of ids edges bars) v ≡ slice_index degrees v
    degree_is v low high =
        ap length (neighbours-network_of ids edges bars v low high ∙ sym (same_row (length ids) edges fit v)) ∙ length-row_in edges v ∙ sym (are.each v high)

    pub first_crowded : (v : ℕ) → IsFirstCrowded degrees v →
        IsCrowded (network_of ids edges bars) v × ((u : ℕ) → IsCrowded (network_of ids edges bars) u → v ≤ u)
    first_crowded v first =
        let low : 1 ≤ v = ⊎_elim
        (λ zero. let none : v ≡ 0 = omega arith in absurd (omega (
          arith,
          first.1,
          ap (slice_index degrees) none,
          are.each 0 (omega arith),
          degree_in-zero (length ids) edges fit,
        )))
        (λ some. some) (cases_lt v 1) in
        let high : v ≤ length ids = omega (arith, first.0, are.size) in (
          (vertex_from v low high, omega (arith, degree_is v low high, first.1)),
          (λ u crowded.
              let vertex = is_vertex ids edges bars u crowded.0 in
              ⊎_elim (λ less. absurd (omega (arith, first.2 u less, crowded.1, degree_is u vertex.0 vertex.1))) (λ more. more) (cases_lt u v)),
        )

    pub none_crowded : All (λ degree. degree ≤ MAX_DEGREE) degrees → (v : ℕ) → IsCrowded (network_of ids edges bars) v → ⊥
    none_crowded few v crowded =
        let vertex = is_vertex ids edges bars v crowded.0 in
        omega (arith, few v 0 (omega (arith, are.size)), crowded.1, degree_is v vertex.0 vertex.1)

  pub none_same_id : HasNoSameId ids (length ids) → (v w : ℕ) → HaveSameId (network_of ids edges bars) v w → ⊥
  unfolding network_of
  none_same_id none v w same = none v w same.1.1 (same.0.0, same.2, same.3)

  pub first_pair : (v w : ℕ) → IsFirstSameId ids (length ids) (v, w) →
      HaveSameId (network_of ids edges bars) v w × ((t u : ℕ) → HaveSameId (network_of ids edges bars) t u → (v < t) ⊎ ((v ≡ t) × (w ≤ u)))
  unfolding network_of
  first_pair v w first = (
    (vertex_from v first.1.0 (omega (arith, first.0, first.1.1)), vertex_from w (omega (arith, first.1.0, first.1.1)) first.0, first.1.1, first.1.2),
    (λ t u same. first.2 t u same.1.1 (same.0.0, same.2, same.3)),
  )
