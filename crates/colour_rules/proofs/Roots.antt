-- The forests in which a node is a root turned, by ascending number; those that were heard of are passed by.
use Rattle.std.proofs.Common.{◌≡◌, ◌≢◌, ℕ, ◌+◌, ◌<◌, ◌≤◌, Bool, true, false, length, refl, ap, sym, ◌∙◌, inl, inr, arith}
use Rattle.std.specs.Prelude.{◌&&◌, nat_lt, not, None, slice_set}
use Rattle.std.proofs.lemmas.Bool.{cases_eq}
use Rattle.std.proofs.lemmas.Bool.Decides.{nat_tests}
use native.Mathlib.Decide.{dec_lt}
use Prim.{yes, no}
use Rattle.colour_rules.specs.declared.phase.Reduction.{Reduction}
use Rattle.colour_rules.specs.declared.colours.InForests.{InForests}
use Rattle.colour_rules.specs.InForests.{AreTurned, IsReadyAt, in_forest, turned_in}
use Rattle.colour_rules.proofs.Turned.{ready-still, turned-more, turned-none, turned-same}

next-below : (f i : ℕ) → f ≢ i → nat_lt f (i + 1) ≡ nat_lt f i
next-below f i other =
    elim (dec_lt f i) [
      | yes h ↦ (let a : nat_lt f (i + 1) ≡ true = grind (arith, nat_tests) in a) ∙ sym (let b : nat_lt f i ≡ true = grind (arith, nat_tests) in b)
      | no h ↦ (let a : nat_lt f (i + 1) ≡ false = grind (arith, nat_tests) in a) ∙ sym (let b : nat_lt f i ≡ false = grind (arith, nat_tests) in b)
    ]

module _ (reduction : Reduction) (id : ℕ) (heard : ℕ → Bool) (old : InForests) where
  -- the forests below i of which nothing was heard
  abbrev pub roots-below : ℕ → ℕ → Bool
  roots-below i f = nat_lt f i && not (heard f)

  pub roots-start : AreTurned reduction id (λ f. None) (roots-below 0) old old
  roots-start = turned-none reduction id (λ f. None) (roots-below 0) old (λ f. ap (λ (b : Bool). b && not (heard f)) (none f))
    where
      none : (f : ℕ) → nat_lt f 0 ≡ false
      none f = grind (arith, nat_tests)

  not-yet : (i : ℕ) → roots-below i i ≡ false
  not-yet i = ap (λ (b : Bool). b && not (heard i)) (let e : nat_lt i i ≡ false = grind (arith, nat_tests) in e)

  module _ (i : ℕ) (mid : InForests) (t : AreTurned reduction id (λ f. None) (roots-below i) old mid) where
    pub roots-ready : i < length old.each.items → IsReadyAt reduction id None old i → IsReadyAt reduction id None mid i
    roots-ready here = ready-still reduction id (λ f. None) (roots-below i) old mid t i here (not-yet i) None refl

    pub roots-more : i < length old.each.items → heard i ≡ false → (new : InForests) → new.is_seeded ≡ mid.is_seeded →
        new.each.items ≡ slice_set mid.each.items i (turned_in reduction id mid.is_seeded None (in_forest mid i)) →
        AreTurned reduction id (λ f. None) (roots-below (i + 1)) old new
    roots-more here root new seeded each =
        turned-more reduction id (λ f. None) (roots-below i) old mid t i here (not-yet i) None refl (roots-below (i + 1)) new
        (let e : nat_lt i (i + 1) ≡ true = grind (arith, nat_tests) in λ k. e k && not (root k))
        (λ f other. ap (λ (b : Bool). b && not (heard f)) (next-below f i other)) seeded each

    pub roots-skip : heard i ≡ true → AreTurned reduction id (λ f. None) (roots-below (i + 1)) old mid
    roots-skip child = turned-same reduction id (λ f. None) (roots-below i) (roots-below (i + 1)) old mid t (λ f h. same f)
      where
        same : (f : ℕ) → roots-below i f ≡ roots-below (i + 1) f
        same f =
            elim (cases_eq f i) [
              | inl e ↦ rw e (not-yet i ∙ sym (let g : nat_lt i (i + 1) ≡ true = grind (arith, nat_tests) in λ k. g k && not (child k)))
              | inr other ↦ sym (ap (λ (b : Bool). b && not (heard f)) (next-below f i other))
            ]

    pub roots-end : length old.each.items ≤ i → AreTurned reduction id (λ f. None) (λ f. not (heard f)) old mid
    roots-end all =
        turned-same reduction id (λ f. None) (roots-below i) (λ f. not (heard f)) old mid t
        (λ f h. ap (λ (b : Bool). b && not (heard f)) (let e : nat_lt f i ≡ true = grind (arith, nat_tests) in e))
