-- Up to the last pulse, what is heard of an inbox is the greatest of what was known and of what came.
use Rattle.std.proofs.Common.{◌≡◌, ℕ, zero, suc, ◌+◌, ◌<◌, ◌≤◌, List, [], ◌∷◌, length, refl, ap, ◌∙◌, arith, inl, inr}
use Rattle.std.specs.Prelude.{Option, Some, None, Result, Ok, Err, max, ◌⊎◌}
use Rattle.std.proofs.lemmas.Bool.Decides.{nat_tests}
use native.Mathlib.Decide.{dec_lt}
use Prim.{yes, no}
use Rattle.node_api.specs.Boxes.{at_port, fold_slots, nothing}
use Rattle.node_api.specs.declared.program.Refused.{Refused}
use Rattle.leader.specs.declared.candidate.Candidate.{Candidate}
use Rattle.leader.specs.declared.rules.TheConstants.{AFTER_LAST}
use Rattle.leader.specs.Election.{and_heard}

-- The greatest of b and of what is in the slots: b at least, each of these at least, and one of them.
pub record IsGreatest (b : ℕ) (slots : List (Option Candidate)) (best : ℕ) : Type 0 where
  pub start : b ≤ best
  pub each : (k : ℕ) (x : Candidate) → k < length slots → at_port slots k ≡ Some x → x.0 ≤ best
  pub one : (best ≡ b) ⊎ ((k : ℕ) × (x : Candidate) × (k < length slots) × (at_port slots k ≡ Some x) × (best ≡ x.0))

-- once a port is refused, no later one counts
pub refused-stays : (last p port : ℕ) (refused : Refused) (slots : List (Option Candidate))
    → fold_slots (and_heard last p) (Err refused) port slots ≡ Err refused
refused-stays last p port refused [] = refl
refused-stays last p port refused (None ∷ slots) = refused-stays last p (port + 1) refused slots
refused-stays last p port refused (Some x ∷ slots) = refused-stays last p (port + 1) refused slots

-- a payload after the last pulse, and before
pub heard-late : (last p best port : ℕ) (x : Candidate) → last < p
    → and_heard last p (Ok best) port x ≡ Err (record { rule = AFTER_LAST; port = Some port })
heard-late last p best port x late = grind (arith, nat_tests)

pub heard-early : (last p best port : ℕ) (x : Candidate) → p ≤ last → and_heard last p (Ok best) port x ≡ Ok (max best x.0)
heard-early last p best port x early = grind (arith, nat_tests)

-- what is heard up to the last pulse
abbrev Heard : ℕ → ℕ → ℕ → ℕ → List (Option Candidate) → Type 0
Heard last p b port slots =
    (best : ℕ) × (fold_slots (and_heard last p) (Ok b) port slots ≡ Ok best) × IsGreatest b slots best

-- the identifier in a slot, and 0 for an empty one
abbrev pub number : Option Candidate → ℕ
number None = 0
number (Some x) = x.0

-- one slot more before the others: c is the greater of b and of what is in it
later-each : (c best : ℕ) (slot : Option Candidate) (slots : List (Option Candidate)) → IsGreatest c slots best → number slot ≤ c
    → (k : ℕ) (x : Candidate) → k < length (slot ∷ slots) → at_port (slot ∷ slots) k ≡ Some x → x.0 ≤ best
later-each c best slot slots is most zero x below at = omega (arith, is.start, most, ap number at)
later-each c best slot slots is most (suc k) x below at = is.each k x (omega arith) at

later-none : (b best : ℕ) (slots : List (Option Candidate)) → IsGreatest b slots best → IsGreatest b (None ∷ slots) best
later-none b best slots is = record {
  start = is.start;
  each = later-each b best None slots is (omega arith);
  one = elim is.one [ inl same ↦ inl same | inr (k, x, below, at, value) ↦ inr (suc k, x, omega arith, at, value) ];
}

later-some : (b best : ℕ) (y : Candidate) (slots : List (Option Candidate)) → IsGreatest (max b y.0) slots best
    → IsGreatest b (Some y ∷ slots) best
later-some b best y slots is = record {
  start = omega (arith, is.start);
  each = later-each (max b y.0) best (Some y) slots is (omega arith);
  one = elim is.one [
    | inl same ↦ elim (dec_lt b y.0) [ yes less ↦ inr (0, y, omega arith, refl, omega (arith, same)) | no other ↦ inl (omega (arith, same)) ]
    | inr (k, x, below, at, value) ↦ inr (suc k, x, omega arith, at, value)
  ];
}

pub hears : (last p b port : ℕ) (slots : List (Option Candidate)) → p ≤ last → Heard last p b port slots
hears last p b port [] early =
    (b, refl, record { start = omega arith; each = λ k x below at. absurd (omega arith); one = inl refl })
hears last p b port (None ∷ slots) early =
    let (best, is, greatest) = hears last p b (port + 1) slots early in
    (best, is, later-none b best slots greatest)
hears last p b port (Some y ∷ slots) early =
    let (best, is, greatest) = hears last p (max b y.0) (port + 1) slots early in (
      best,
      ap (λ (r : Result ℕ Refused). fold_slots (and_heard last p) r (port + 1) slots) (heard-early last p b port y early) ∙ is,
      later-some b best y slots greatest,
    )

-- of an empty inbox nothing is heard
pub heard-nothing : (last p b port n : ℕ) → fold_slots (and_heard last p) (Ok b) port (nothing n) ≡ Ok b
heard-nothing last p b port zero = refl
heard-nothing last p b port (suc n) = heard-nothing last p b (port + 1) n
