-- What is in the set of the colours that neighbours have chosen anew.
use Rattle.std.proofs.Common.{◌≡◌, ℕ, zero, suc, ◌+◌, ◌<◌, ◌==◌, Bool, true, false, List, [], ◌∷◌, length, ap, sym, ◌∙◌, arith, inl, inr}
use Rattle.std.specs.Prelude.{◌⊎◌, if◌then◌else◌, nat_lt, Option, Some, None}
use Rattle.std.specs.Ordering.{nat_cmp}
use Rattle.std.specs.FinSet.{FinSet, contains, insert}
use Rattle.std.proofs.lemmas.Bool.{lt-ltb, or_cases, or_left, or_right}
use Rattle.std.proofs.lemmas.Bool.Decides.{nat_tests}
use Rattle.forest_merge.specs.declared.chosen.TheConstants.{COLOURS}
use Rattle.forest_merge.proofs.Sets.{contains-insert_colour}
use Rattle.node_api.specs.Boxes.{at_port, fold_slots}
use Rattle.followed.specs.declared.said.Said.TheVariants.{First, Then}
use Rattle.recolouring.specs.Knowing.{Wire, and_anew, says}

-- the number of what comes
abbrev pub number : Wire → ℕ
number (First payload) = 0
number (Then anew) = anew.0

abbrev number_at : Option Wire → ℕ
number_at None = 0
number_at (Some x) = number x

same_colour : (c x : ℕ) → (c == x) ≡ true → c ≡ x
same_colour c x e = grind (arith, nat_tests)

one-from : (b : Bool) (set : FinSet nat_cmp) (x c : ℕ) → contains (if b then insert set x else set) c ≡ true → (c ≡ x) ⊎ (contains set c ≡ true)
one-from true set x c e = elim (or_cases (c == x) (contains set c) (sym (contains-insert_colour set x c) ∙ e)) [
  | inl same ↦ inl (same_colour c x same)
  | inr before ↦ inr before
]
one-from false set x c e = inr e

one-keeps : (b : Bool) (set : FinSet nat_cmp) (x c : ℕ) → contains set c ≡ true → contains (if b then insert set x else set) c ≡ true
one-keeps true set x c e = contains-insert_colour set x c ∙ or_right (c == x) (contains set c) e
one-keeps false set x c e = e

-- it was there, or it came
pub anew-from : (slots : List (Option Wire)) (set : FinSet nat_cmp) (port c : ℕ) → contains (fold_slots and_anew set port slots) c ≡ true →
    (contains set c ≡ true) ⊎ ((k : ℕ) × (k < length slots) × (at_port slots k ≡ Some (says c)))
anew-from [] set port c e = inl e
anew-from (None ∷ slots) set port c e = elim (anew-from slots set (port + 1) c e) [
  | inl before ↦ inl before
  | inr there ↦ inr (suc there.0, omega (arith, there.1), there.2)
]
anew-from (Some (First payload) ∷ slots) set port c e = elim (anew-from slots set (port + 1) c e) [
  | inl before ↦ inl before
  | inr there ↦ inr (suc there.0, omega (arith, there.1), there.2)
]
anew-from (Some (Then anew) ∷ slots) set port c e = elim (anew-from slots (if nat_lt anew.0 COLOURS then insert set anew.0 else set) (port + 1) c e) [
  | inl before ↦ elim (one-from (nat_lt anew.0 COLOURS) set anew.0 c before) [
    | inl same ↦ inr (0, omega arith, ap (λ (n : ℕ). Some (says n)) (sym same))
    | inr was ↦ inl was
  ]
  | inr there ↦ inr (suc there.0, omega (arith, there.1), there.2)
]

pub anew-keeps : (slots : List (Option Wire)) (set : FinSet nat_cmp) (port c : ℕ) → contains set c ≡ true
    → contains (fold_slots and_anew set port slots) c ≡ true
anew-keeps [] set port c e = e
anew-keeps (None ∷ slots) set port c e = anew-keeps slots set (port + 1) c e
anew-keeps (Some (First payload) ∷ slots) set port c e = anew-keeps slots set (port + 1) c e
anew-keeps (Some (Then anew) ∷ slots) set port c e =
    anew-keeps slots (if nat_lt anew.0 COLOURS then insert set anew.0 else set) (port + 1) c (one-keeps (nat_lt anew.0 COLOURS) set anew.0 c e)

put : (b : Bool) (set : FinSet nat_cmp) (c : ℕ) → b ≡ true → contains (if b then insert set c else set) c ≡ true
put true set c e = contains-insert_colour set c c ∙ or_left (c == c) (contains set c) (grind (arith, nat_tests))
put false set c e = absurd cc

-- what comes is there then
pub anew-has : (slots : List (Option Wire)) (set : FinSet nat_cmp) (port k c : ℕ) → k < length slots → c < COLOURS → at_port slots k ≡ Some (says c) →
    contains (fold_slots and_anew set port slots) c ≡ true
anew-has [] set port k c below low is = absurd (omega arith)
anew-has (None ∷ slots) set port zero c below low is = absurd cc
anew-has (None ∷ slots) set port (suc k) c below low is = anew-has slots set (port + 1) k c (omega arith) low is
anew-has (Some (First payload) ∷ slots) set port zero c below low is = absurd cc
anew-has (Some (First payload) ∷ slots) set port (suc k) c below low is = anew-has slots set (port + 1) k c (omega arith) low is
anew-has (Some (Then anew) ∷ slots) set port zero c below low is =
    let same : anew.0 ≡ c = ap number_at is in
    let test : nat_lt anew.0 COLOURS ≡ true = lt-ltb anew.0 COLOURS (omega arith) in
    anew-keeps slots (if nat_lt anew.0 COLOURS then insert set anew.0 else set) (port + 1) c
    (ap (contains (if nat_lt anew.0 COLOURS then insert set anew.0 else set)) (sym same) ∙ put (nat_lt anew.0 COLOURS) set anew.0 test)
anew-has (Some (Then anew) ∷ slots) set port (suc k) c below low is =
    anew-has slots (if nat_lt anew.0 COLOURS then insert set anew.0 else set) (port + 1) k c (omega arith) low is
