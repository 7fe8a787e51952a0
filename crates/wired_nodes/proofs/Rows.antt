-- The link of an index, and what is read of it.
use Rattle.std.proofs.Common.{◌≡◌, ℕ, zero, suc, ◌<◌, List, [], ◌∷◌, length, map, get_or, sym, ap, Some, slice_get, arith}
use Rattle.std.specs.Prelude.{IsSome}

module _ {L A : Type 0} (f : L → A) where
  -- an index that is read of the list is within it, and is read there
  pub in_row : (ls : List L) (i : ℕ) → IsSome (slice_get (map f ls) i)
      → (i < length ls) × (((l : L) → l ≡ get_or ls i l → slice_get (map f ls) i ≡ Some (f l)) × ((l : L) → l ≡ get_or ls i l → slice_get ls i ≡ Some l))
  in_row [] i some = absurd cc
  in_row (l ∷ ls) zero some = (omega arith, (λ x is. ap (λ y. Some (f y)) (sym is), λ x is. ap (λ y. Some y) (sym is)))
  in_row (l ∷ ls) (suc i) some = let rest = in_row ls i some in (omega (arith, rest.0), rest.1)
