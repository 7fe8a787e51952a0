-- What is heard of an inbox: the first port at which something came, if each payload is one less than the pulse.
use Rattle.std.proofs.Common.{◌≡◌, ℕ, zero, suc, ◌+◌, ◌<◌, ◌≤◌, List, [], ◌∷◌, length, refl, ap, ◌∙◌, arith}
use Rattle.std.specs.Prelude.{Option, Some, None, Result, Ok, Err}
use Rattle.std.specs.Option.{option_or}
use Rattle.node_api.specs.Boxes.{at_port, fold_slots, nothing}
use Rattle.node_api.specs.declared.program.Refused.{Refused}
use Rattle.layers.specs.declared.hops.Hops.{Hops}
use Rattle.layers.specs.Layering.{and_heard, and_port, rule_broken}
use Rattle.layers.specs.LayeringLaws.{unbroken}

-- once a port is refused, no later one counts
pub refused-stays : (last p port : ℕ) (refused : Refused) (slots : List (Option Hops))
    → fold_slots (and_heard last p) (Err refused) port slots ≡ Err refused
refused-stays last p port refused [] = refl
refused-stays last p port refused (None ∷ slots) = refused-stays last p (port + 1) refused slots
refused-stays last p port refused (Some x ∷ slots) = refused-stays last p (port + 1) refused slots

-- of an empty inbox nothing is heard
pub heard-nothing : (last p port n : ℕ) (first : Option ℕ) → fold_slots (and_heard last p) (Ok first) port (nothing n) ≡ Ok first
heard-nothing last p port zero first = refl
heard-nothing last p port (suc n) first = heard-nothing last p (port + 1) n first

-- a payload that breaks a rule, and one that breaks none
pub heard-broken : (last p port rule : ℕ) (first : Option ℕ) (x : Hops) → rule_broken last p x.0 ≡ Some rule
    → and_heard last p (Ok first) port x ≡ Err (record { rule = rule; port = Some port })
heard-broken last p port rule first x is = ap (λ (broken : Option ℕ). and_port first port broken) is

pub heard-right : (last p port : ℕ) (first : Option ℕ) (x : Hops) → rule_broken last p x.0 ≡ None
    → and_heard last p (Ok first) port x ≡ Ok (option_or first (Some port))
heard-right last p port first x is = ap (λ (broken : Option ℕ). and_port first port broken) is

-- every payload is one less than the pulse
abbrev pub AreRight : ℕ → List (Option Hops) → Type 0
AreRight p slots = (k : ℕ) (x : Hops) → k < length slots → at_port slots k ≡ Some x → suc x.0 ≡ p

-- once a port is found, no later one counts
later : (last p port found : ℕ) (slots : List (Option Hops)) → p ≤ last → AreRight p slots
    → fold_slots (and_heard last p) (Ok (Some found)) port slots ≡ Ok (Some found)
later last p port found [] early right = refl
later last p port found (None ∷ slots) early right = later last p (port + 1) found slots early (λ k x below at. right (suc k) x (omega arith) at)
later last p port found (Some x ∷ slots) early right =
    ap (λ (r : Result (Option ℕ) Refused). fold_slots (and_heard last p) r (port + 1) slots)
    (heard-right last p port (Some found) x (unbroken last p x.0 early (right 0 x (omega arith) refl)))
    ∙ later last p (port + 1) found slots early (λ k x below at. right (suc k) x (omega arith) at)

-- What is heard of slots of which the first is of this port: nothing if none has a payload, or a port that has one.
abbrev pub Hears : ℕ → ℕ → List (Option Hops) → Option ℕ → Type 0
Hears p port slots None = (k : ℕ) → k < length slots → at_port slots k ≡ None
Hears p port slots (Some found) = (k : ℕ) × (k < length slots) × (found ≡ port + k) × ((x : Hops) × (at_port slots k ≡ Some x))

all-empty : (slots : List (Option Hops)) → ((k : ℕ) → k < length slots → at_port slots k ≡ None)
    → (k : ℕ) → k < length (None ∷ slots) → at_port (None ∷ slots) k ≡ None
all-empty slots empty zero below = refl
all-empty slots empty (suc k) below = empty k (omega arith)

one-more : (p port : ℕ) (slots : List (Option Hops)) (first : Option ℕ) → Hears p (port + 1) slots first → Hears p port (None ∷ slots) first
one-more p port slots None empty = all-empty slots empty
one-more p port slots (Some found) (k, below, is, some) = (suc k, omega arith, omega (arith, is), some)

pub hears : (last p port : ℕ) (slots : List (Option Hops)) → p ≤ last → AreRight p slots
    → (first : Option ℕ) × (fold_slots (and_heard last p) (Ok None) port slots ≡ Ok first) × Hears p port slots first
hears last p port [] early right = (None, refl, λ k below. absurd (omega arith))
hears last p port (None ∷ slots) early right =
    let (first, is, what) = hears last p (port + 1) slots early (λ k x below at. right (suc k) x (omega arith) at) in
    (first, is, one-more p port slots first what)
hears last p port (Some x ∷ slots) early right = (
  Some port,
  ap (λ (r : Result (Option ℕ) Refused). fold_slots (and_heard last p) r (port + 1) slots)
      (heard-right last p port None x (unbroken last p x.0 early (right 0 x (omega arith) refl)))
      ∙ later last p (port + 1) port slots early (λ k x below at. right (suc k) x (omega arith) at),
  (0, omega arith, omega arith, (x, refl)),
)
