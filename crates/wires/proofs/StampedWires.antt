-- Wires with their stamps, and one more at the end.
use Rattle.std.proofs.Common.{◌≡◌, ℕ, ◌<◌, List, [], ◌∷◌, ◌++◌, refl}
use Rattle.wires.specs.declared.stamped.Stamped.{Stamped}
use Rattle.wires.specs.StampedWires.{RiseFrom, last_from}

module _ {M : Type 0} where
  pub last_more : (s : ℕ) (xs : List (Stamped M)) (x : Stamped M) → last_from s (xs ++ x ∷ []) ≡ x.stamp
  last_more s [] x = refl
  last_more s (y ∷ ys) x = last_more y.stamp ys x

  pub rise_more : (s : ℕ) (xs : List (Stamped M)) (x : Stamped M) → RiseFrom s xs → last_from s xs < x.stamp → RiseFrom s (xs ++ x ∷ [])
  rise_more s [] x rise above = (above, tt)
  rise_more s (y ∷ ys) x rise above = (rise.0, rise_more y.stamp ys x rise.1 above)

  -- a beginning
  pub rise_front : (s : ℕ) (xs ys : List (Stamped M)) → RiseFrom s (xs ++ ys) → RiseFrom s xs
  rise_front s [] ys rise = tt
  rise_front s (x ∷ xs) ys rise = (rise.0, rise_front x.stamp xs ys rise.1)

  -- the last
  pub rise_last : (s : ℕ) (xs : List (Stamped M)) (x : Stamped M) → RiseFrom s (xs ++ x ∷ []) → last_from s xs < x.stamp
  rise_last s [] x rise = rise.0
  rise_last s (y ∷ ys) x rise = rise_last y.stamp ys x rise.1
