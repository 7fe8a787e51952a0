-- Which vertices are reached within some links can be decided; so a vertex that is reached has a distance, and a
-- neighbour that is one link closer.
use Rattle.std.proofs.Common.{◌≡◌, ℕ, zero, suc, ◌<◌, ◌≤◌, subst, arith, inl, inr}
use Rattle.std.specs.Prelude.{◌⊎◌}
use native.Mathlib.Decide.{dec_lt}
use Prim.{yes, no}
use Rattle.std.proofs.lemmas.Bool.Decides.{eqb_tells}
use Rattle.interference.specs.Net.{Net, degree_of, neighbour_of}
use Rattle.sync_rounds.specs.Reach.{IsWithinLinks}
use Rattle.distances.specs.Distance.{IsDistance}

-- a fact, or that it doesn't hold
abbrev pub Decided : Type 0 → Type 0
Decided P = P ⊎ (P → ⊥)

decided-equal : (a b : ℕ) → Decided (a ≡ b)
decided-equal a b = elim (eqb_tells a b) [ inl same ↦ inl same.1 | inr other ↦ inr other.1 ]

-- whether there is one below n
decided-below : (P : ℕ → Type 0) → ((k : ℕ) → Decided (P k)) → (n : ℕ) → Decided ((k : ℕ) × (k < n) × P k)
decided-below P each zero = inr (λ some. omega (arith, some.1))
decided-below P each (suc n) =
    elim (each n) [
      | inl here ↦ inl (n, omega arith, here)
      | inr not_here ↦ elim (decided-below P each n) [
        | inl (k, below, is) ↦ inl (k, omega arith, is)
        | inr none ↦ inr (λ some. elim (dec_lt some.0 n) [
          | yes less ↦ none (some.0, less, some.2)
          | no other ↦ not_here (subst P (let e : some.0 ≡ n = omega (arith, some.1) in e) some.2)
        ])
      ]
    ]

module _ (net : Net) where
  pub decided-within : (d v w : ℕ) → Decided (IsWithinLinks net d v w)
  decided-within zero v w = decided-equal w v
  decided-within (suc d) v w =
      elim (decided-within d v w) [
        | inl near ↦ inl (inl near)
        | inr far ↦ elim (decided-below (λ port. IsWithinLinks net d (neighbour_of net v port) w)
            (λ port. decided-within d (neighbour_of net v port) w) (degree_of net v)) [
              | inl some ↦ inl (inr some)
              | inr none ↦ inr (λ within. elim within [ inl near ↦ far near | inr some ↦ none some ])
            ]
      ]

  -- what is reached over some links is reached over more of them
  pub within-more : (k d v w : ℕ) → k ≤ d → IsWithinLinks net k v w → IsWithinLinks net d v w
  within-more k zero v w few within = subst (λ (n : ℕ). IsWithinLinks net n v w) (let e : k ≡ 0 = omega arith in e) within
  within-more k (suc d) v w few within =
      elim (dec_lt k (suc d)) [
        | yes less ↦ inl (within-more k d v w (omega arith) within)
        | no other ↦ subst (λ (n : ℕ). IsWithinLinks net n v w) (let e : k ≡ suc d = omega arith in e) within
      ]

  -- a number of links over which w is reached, and over one less it isn't, is the distance
  pub distance-from : (d v w : ℕ) → IsWithinLinks net (suc d) v w → (IsWithinLinks net d v w → ⊥) → IsDistance net v w (suc d)
  distance-from d v w within far = record {
    reached = within;
    least = λ k near. elim (dec_lt k (suc d)) [
      | yes less ↦ absurd (far (within-more k d v w (omega arith) near))
      | no other ↦ omega arith
    ];
  }

  pub distance-to : (d v w : ℕ) → IsWithinLinks net d v w → (e : ℕ) × IsDistance net v w e
  distance-to zero v w within = (0, record { reached = within; least = λ k near. omega arith })
  distance-to (suc d) v w within =
      elim (decided-within d v w) [
        | inl near ↦ distance-to d v w near
        | inr far ↦ (suc d, distance-from d v w within far)
      ]

  -- a neighbour is one link closer
  pub closer : (d v w : ℕ) → IsDistance net v w (suc d)
      → (port : ℕ) × (port < degree_of net v) × IsDistance net (neighbour_of net v port) w d
  closer d v w h =
      elim h.reached [
        | inl near ↦ absurd (omega (arith, h.least d near))
        | inr (port, below, near) ↦ (
          port,
          below,
          record {
            reached = near;
            least = λ k within. omega (arith, h.least (suc k) (inr (port, below, within)));
          },
        )
      ]
