-- The slots of a port, and what one wire more does to them.
use Rattle.std.proofs.Common.{◌≡◌, ℕ, suc, ◌≤◌, Bool, true, false, List, [], ◌∷◌, ◌++◌, Option, Some, None, refl, sym, ap, ◌∙◌, arith, ⊎_elim, ne_eqb, eq-eqb}
use Rattle.std.specs.Prelude.{is_some}
use Rattle.std.proofs.lemmas.Bool.{cases_eq, false_from_ne_true}
use Rattle.wires.specs.declared.wire.Wire.{Wire}
use Rattle.wires.specs.declared.wire.Wire.TheVariants.{Payload, Ack, Safe, Close}
use Rattle.wires.specs.Wires.{payload_at}
use Rattle.alpha_core.specs.View.{Port, bit, safes_at}
use Rattle.alpha_laws.proofs.Cursor.{moves-append, follows-more}
use Rattle.alpha_laws.proofs.Passed.{at-early}
use Rattle.alpha_laws.specs.Position.{start_at, move, moves, Allows, Follows}
use Rattle.alpha_laws.specs.Kept.{paid_at, taken_to, PortKept}

abbrev or_else : {M : Type 0} → Option M → Option M → Option M
or_else None o = o
or_else (Some x) o = Some x

or_none : {M : Type 0} (o : Option M) → or_else o None ≡ o
or_none None = refl
or_none (Some x) = refl

payload_at-append : {M : Type 0} (q : ℕ) (xs ys : List (Wire M)) → payload_at q (xs ++ ys) ≡ or_else (payload_at q xs) (payload_at q ys)
payload_at-append q [] ys = refl
payload_at-append q (Payload r x ∷ xs) ys = ⊎_elim
    (λ same. rw (eq-eqb r q same) refl)
    (λ ne. rw (ne_eqb r q ne) (payload_at-append q xs ys))
    (cases_eq r q)
payload_at-append q (Ack r ∷ xs) ys = payload_at-append q xs ys
payload_at-append q (Safe r ∷ xs) ys = payload_at-append q xs ys
payload_at-append q (Close ∷ xs) ys = payload_at-append q xs ys

-- a slot that one wire more does not move
pub slot_kept : {M : Type 0} (q : ℕ) (taken : List (Wire M)) (w : Wire M) → payload_at q (w ∷ []) ≡ None → payload_at q taken ≡ payload_at q (taken ++ (w ∷ []))
slot_kept q taken w other = sym (payload_at-append q taken (w ∷ []) ∙ ap (λ o. or_else (payload_at q taken) o) other ∙ or_none _)

-- a slot that one payload more fills
pub slot_filled : {M : Type 0} (q : ℕ) (taken : List (Wire M)) (x : M) → payload_at q taken ≡ None → Some x ≡ payload_at q (taken ++ (Payload q x ∷ []))
slot_filled q taken x none = sym (payload_at-append q taken (Payload q x ∷ []) ∙ rw (none, eq-eqb q q refl) refl)

pub other_slot : {M : Type 0} (q r : ℕ) (x : M) → (r ≡ q → ⊥) → payload_at q (Payload r x ∷ []) ≡ None
other_slot q r x ne = rw (ne_eqb r q ne) refl

pub bit_le : (b : Bool) → bit b ≤ 1
bit_le true = omega arith
bit_le false = omega arith

module _ {M : Type 0} {last : ℕ} {own other : ℕ → Option M} {p : ℕ} {said : Bool} {port : Port M} {emitted taken : List (Wire M)}
    (kept : PortKept last own other p said port emitted taken) where
  -- before the safe of this pulse no early wire was taken
  pub no_early_safe : port.safe ≡ false → port.early_safe ≡ false
  no_early_safe first = false_from_ne_true port.early_safe (λ e. let both : port.safe ≡ true = kept.nested e in cc)

  pub no_early : port.safe ≡ false → port.early ≡ None
  no_early first = kept.early ∙ at-early other last (suc p) start_at taken kept.takes
      (rw kept.taken_at (rw (first, no_early_safe first) (omega (arith, bit_le (is_some port.present)))))

  -- the place of a payload not yet taken
  pub unpaid : (q : ℕ) → safes_at p port ≤ q → (safes_at p port ≡ q → paid_at port ≡ false) → payload_at q taken ≡ None
  unpaid q le fresh = at-early other last q start_at taken kept.takes (rw kept.taken_at (⊎_elim
      (λ same. let none : paid_at port ≡ false = fresh same in rw none (omega arith))
      (λ ne. omega (arith, bit_le (paid_at port)))
      (cases_eq (safes_at p port) q)))

  module _ (w : Wire M) (allowed : Allows other last (taken_to p port) w) where
    pub more_taken : Follows other last start_at (taken ++ (w ∷ []))
    more_taken = follows-more other last start_at taken (w ∷ []) kept.takes (rw kept.taken_at allowed, tt)

    pub more_at : moves start_at (taken ++ (w ∷ [])) ≡ move (taken_to p port) w
    more_at = moves-append start_at taken (w ∷ []) ∙ ap (λ c. move {M = M} c w) kept.taken_at
