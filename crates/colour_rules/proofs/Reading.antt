-- Reading the colours that were chosen from an inbox to its end.
use Rattle.std.proofs.Common.{◌≡◌, ℕ, ◌+◌, ◌-◌, ◌<◌, ◌≤◌, List, [], ◌∷◌, length, refl, ap, sym, ◌∙◌, arith}
use Rattle.std.specs.Prelude.{Option, Some, None, IsSome}
use Rattle.std.specs.Ordering.{nat_cmp}
use Rattle.std.specs.FinSet.{FinSet, insert}
use Rattle.node_api.specs.Boxes.{Mail, Reads, HasFrom, at_port, fold_slots}
use Rattle.colour_rules.specs.declared.payload.Payload.{Payload}
use Rattle.colour_rules.specs.declared.payload.Payload.TheVariants.{Hello, Label, Colour, Chosen}
use Rattle.colour_rules.specs.Choice.{with_chosen}

-- one payload taken into a set
abbrev pub taken_in : FinSet nat_cmp → ℕ → Payload → FinSet nat_cmp
taken_in set port (Chosen c) = insert set c
taken_in set port (Hello id) = set
taken_in set port (Label f) = set
taken_in set port (Colour c) = set

pub taken_in-other : (set : FinSet nat_cmp) (port : ℕ) (payload : Payload) → ((c : ℕ) → payload ≡ Chosen c → ⊥) → taken_in set port payload ≡ set
taken_in-other set port (Chosen c) h = absurd (h c refl)
taken_in-other set port (Hello id) h = refl
taken_in-other set port (Label f) h = refl
taken_in-other set port (Colour c) h = refl

pub with_chosen-fold : (set : FinSet nat_cmp) (port : ℕ) (slots : List (Option Payload)) → fold_slots taken_in set port slots ≡ with_chosen set slots
with_chosen-fold set port [] = refl
with_chosen-fold set port (None ∷ slots) = with_chosen-fold set (port + 1) slots
with_chosen-fold set port (Some (Chosen c) ∷ slots) = with_chosen-fold (insert set c) (port + 1) slots
with_chosen-fold set port (Some (Hello id) ∷ slots) = with_chosen-fold set (port + 1) slots
with_chosen-fold set port (Some (Label f) ∷ slots) = with_chosen-fold set (port + 1) slots
with_chosen-fold set port (Some (Colour c) ∷ slots) = with_chosen-fold set (port + 1) slots

-- what is read next stands in the slots
pub read-is : (old : Mail Payload) (payload : Payload) (new : Mail Payload) → Reads old payload new → at_port old.slots (new.cursor - 1) ≡ Some payload
read-is old payload new r = r.here (new.cursor - 1) (omega (arith, r.later))

-- and less is left to be read
pub read-less : (old : Mail Payload) (payload : Payload) (new : Mail Payload) → Reads old payload new →
    length new.slots - new.cursor < length old.slots - old.cursor
read-less old payload new r = let same : length new.slots ≡ length old.slots = ap length r.same in omega (arith, r.later, r.within)

-- Reading on from a port: the next payload, at this port, and nothing at those between.
pub record Next (slots : List (Option Payload)) (from port : ℕ) (payload : Payload) : Type 0 where
  pub low : from ≤ port
  pub high : port < length slots
  pub none : (q : ℕ) → from ≤ q → q < port → at_port slots q ≡ None
  pub here : at_port slots port ≡ Some payload

pub next-is : (slots : List (Option Payload)) (from port : ℕ) (old : Mail Payload) (payload : Payload) (new : Mail Payload) → old.slots ≡ slots →
    from ≡ old.cursor → port + 1 ≡ new.cursor → Reads old payload new → Next slots from port payload
next-is slots from port old payload new same start end r =
    let n : length old.slots ≡ length slots = ap length same in
    record {
      low = omega (arith, r.later);
      high = omega (arith, r.within);
      none = λ q low high. ap (λ (s : List (Option Payload)). at_port s q) (sym same) ∙ r.first q (omega arith) (omega arith);
      here = ap (λ (s : List (Option Payload)). at_port s port) (sym same) ∙ r.here port end;
    }

-- and where nothing is left to be read, nothing stands at the ports from there on
none_unless : (x : Option Payload) → (IsSome x → ⊥) → x ≡ None
none_unless None h = refl
none_unless (Some x) h = absurd (h refl)

pub none-left : (slots : List (Option Payload)) (from : ℕ) (mail : Mail Payload) → mail.slots ≡ slots → from ≡ mail.cursor →
    (HasFrom mail.slots mail.cursor → ⊥) → (q : ℕ) → from ≤ q → q < length slots → at_port slots q ≡ None
none-left slots from mail same start none q low high =
    let n : length mail.slots ≡ length slots = ap length same in
    ap (λ (s : List (Option Payload)). at_port s q) (sym same) ∙ none_unless (at_port mail.slots q) (λ some. none (q, omega arith, omega arith, some))
