-- A payload more in the two places of a port: the first if it is free, or else the second.
use Rattle.std.proofs.Common.{◌≡◌, ◌≤◌, Option, Some, None, true, false, [], ◌∷◌, ◌++◌, length, refl, arith}
use Rattle.std.specs.Prelude.{is_some}
use Rattle.alpha_core.specs.OutLists.{led_by, payloads_of}

module _ {M : Type 0} where
  pub some-isnt-none : {A : Type 0} (x : M) → Some x ≡ None → A
  some-isnt-none x e = absurd cc

  pub taken-isnt-none : {A : Type 0} (a : Option M) → is_some a ≡ true → a ≡ None → A
  taken-isnt-none None taken e = absurd cc
  taken-isnt-none (Some x) taken e = absurd cc

  pub first-put : (a b : Option M) (x : M) → is_some a ≡ false → (a ≡ None → b ≡ None) → x ∷ led_by b [] ≡ payloads_of a b ++ x ∷ []
  first-put None None x free none = refl
  first-put None (Some y) x free none = let wrong = none refl in absurd cc
  first-put (Some y) b x free none = absurd cc

  pub second-put : (a b : Option M) (x : M) → is_some a ≡ true → length (payloads_of a b) ≤ 1 → payloads_of a (Some x) ≡ payloads_of a b ++ x ∷ []
  second-put None b x taken few = absurd cc
  second-put (Some y) None x taken few = refl
  second-put (Some y) (Some z) x taken few = absurd (omega (arith, few))
