-- The two inboxes of a node: which has the payloads of this pulse, and which those of the next.
use Rattle.std.proofs.Common.{◌≡◌, Bool, true, false, Option, List, refl, ap, ◌∙◌}
use Rattle.alpha_core.specs.Rows.{Taken, taken_by}
use Rattle.alpha_core.specs.When.{in_odd, slots_of, with_slots}
use Rattle.alpha_core.specs.declared.when.When.{When}
use Rattle.alpha_core.specs.declared.when.When.TheVariants.{Now, Next}

module _ {M : Type 0} where
  odd-has : (when : When) (at_odd : Bool) (even odd : List (Option M)) → in_odd when at_odd ≡ true → odd ≡ slots_of when (taken_by at_odd even odd)
  odd-has Now true even odd e = refl
  odd-has Now false even odd e = absurd cc
  odd-has Next true even odd e = absurd cc
  odd-has Next false even odd e = refl

  even-has : (when : When) (at_odd : Bool) (even odd : List (Option M)) → in_odd when at_odd ≡ false → even ≡ slots_of when (taken_by at_odd even odd)
  even-has Now true even odd e = absurd cc
  even-has Now false even odd e = refl
  even-has Next true even odd e = refl
  even-has Next false even odd e = absurd cc

  odd-other : (when : When) (at_odd : Bool) (even odd new : List (Option M)) → in_odd when at_odd ≡ true
      → taken_by at_odd even new ≡ with_slots when new (taken_by at_odd even odd)
  odd-other Now true even odd new e = refl
  odd-other Now false even odd new e = absurd cc
  odd-other Next true even odd new e = absurd cc
  odd-other Next false even odd new e = refl

  even-other : (when : When) (at_odd : Bool) (even odd new : List (Option M)) → in_odd when at_odd ≡ false
      → taken_by at_odd new odd ≡ with_slots when new (taken_by at_odd even odd)
  even-other Now true even odd new e = absurd cc
  even-other Now false even odd new e = refl
  even-other Next true even odd new e = refl
  even-other Next false even odd new e = absurd cc

-- what contracts see of the inboxes
module _ {M : Type 0} (when : When) (at_odd : Bool) (even odd : List (Option M)) {v : Taken M} (is : taken_by at_odd even odd ≡ v) where
  pub odd-slots : in_odd when at_odd ≡ true → odd ≡ slots_of when v
  odd-slots e = odd-has when at_odd even odd e ∙ ap (λ t. slots_of when t) is

  pub even-slots : in_odd when at_odd ≡ false → even ≡ slots_of when v
  even-slots e = even-has when at_odd even odd e ∙ ap (λ t. slots_of when t) is

  pub odd-changed : {new slots : List (Option M)} → in_odd when at_odd ≡ true → new ≡ slots → taken_by at_odd even new ≡ with_slots when slots v
  odd-changed {new} {slots} e same =
      odd-other when at_odd even odd new e ∙ ap (λ t. with_slots when new t) is ∙ ap (λ l. with_slots when l v) same

  pub even-changed : {new slots : List (Option M)} → in_odd when at_odd ≡ false → new ≡ slots → taken_by at_odd new odd ≡ with_slots when slots v
  even-changed {new} {slots} e same =
      even-other when at_odd even odd new e ∙ ap (λ t. with_slots when new t) is ∙ ap (λ l. with_slots when l v) same
