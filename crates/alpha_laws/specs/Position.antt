-- How far a list of wires has come in the stream of its link, and which wires may come next.
use Rattle.std.specs.Prelude.{◌≡◌, ℕ, suc, ◌<◌, Bool, true, false, List, [], ◌∷◌, Option, Some, is_some}
use Rattle.wires.specs.declared.wire.Wire.{Wire}
use Rattle.wires.specs.declared.wire.Wire.TheVariants.{Payload, Ack, Safe, Close}

-- Where a list stands: how many safes it has, whether a payload came after the last of them, and whether Close came.
pub record Position : Type 0 where
  pub safes : ℕ
  pub paid : Bool
  pub closed : Bool

abbrev pub start_at : Position
start_at = record { safes = 0; paid = false; closed = false }

-- the position after one wire more
abbrev pub move : {M : Type 0} → Position → Wire M → Position
move at (Payload q x) = record { safes = at.safes; paid = true; closed = at.closed }
move at (Ack q) = at
move at (Safe q) = record { safes = suc at.safes; paid = false; closed = at.closed }
move at Close = record { safes = at.safes; paid = at.paid; closed = true }

-- the position after a list of wires
abbrev pub moves : {M : Type 0} → Position → List (Wire M) → Position
moves at [] = at
moves at (w ∷ ws) = moves (move at w) ws

-- a wire may come at a position: it is an acknowledgement, or the next wire of the stream; nothing comes after Close
abbrev pub Allows : {M : Type 0} → (ℕ → Option M) → ℕ → Position → Wire M → Type 0
Allows sends last at (Payload q x) = (at.closed ≡ false) × (q ≡ at.safes) × (sends q ≡ Some x) × (at.paid ≡ false) ×
    (q < last)
Allows sends last at (Ack q) = at.closed ≡ false
Allows sends last at (Safe q) = (at.closed ≡ false) × (q ≡ at.safes) × (at.paid ≡ is_some (sends q)) × (q < last)
Allows sends last at Close = (at.closed ≡ false) × (at.safes ≡ last)

-- each wire of a list may come where it stands
abbrev pub Follows : {M : Type 0} → (ℕ → Option M) → ℕ → Position → List (Wire M) → Type 0
Follows sends last at [] = Unit {0}
Follows sends last at (w ∷ ws) = Allows sends last at w × Follows sends last (move at w) ws
