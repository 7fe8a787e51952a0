-- Loops over an inbox: where the cursor and the port of the payload that was read are.
use Rattle.std.proofs.Common.{◌≡◌, ℕ, ◌+◌, ◌<◌, ◌≤◌, arith}

-- a cursor that has moved has a port before it
pub has_moved : (before now : ℕ) → before < now → 0 < now
has_moved before now later = omega arith

-- the port of the payload that was read is one of the ports
pub sender_within : (port cursor slots roles ports len : ℕ) → port + 1 ≡ cursor → cursor ≤ slots → slots ≡ ports → roles ≡ ports → len ≡ roles → port < len
sender_within port cursor slots roles ports len at within came size is = omega arith

-- a colour that is low enough has room
pub within_room : (colour most room : ℕ) → colour ≤ most → most < room → colour < room
within_room colour most room low fits = omega arith
