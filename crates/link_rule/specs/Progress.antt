-- What a check keeps of the wires that it was fed.
use Rattle.std.specs.Prelude.{◌≡◌, ℕ, ◌+◌, ◌<◌, ◌≤◌, ◌↔◌, Bool, true, false, ◌&&◌, not, nat_eq, nat_lt, nat_le}
use Rattle.std.specs.Prelude.{IsTrue, List, Contains, if◌then◌else◌}
use Rattle.wires.specs.StampedWires.{StampsRise, last_stamp, wires_of}
use Rattle.wires.specs.declared.stamped.Stamped.{Stamped}
use Rattle.wires.specs.declared.wire.Wire.{Wire}
use Rattle.wires.specs.declared.wire.Wire.TheVariants.{Payload, Ack, Safe, Close}
use Rattle.wires.specs.Wires.{acks_of, payloads_of, safes_of}
use Rattle.link_rule.specs.Order.{IsInOrder}

-- The last pulse; how many safes came; whether a payload came after the last of them; one more than the pulse of
-- the last acknowledgement, or 0; whether a close came; the stamp of the last wire, or 0.
pub record Progress : Type 0 where
  pub last : ℕ
  pub safes : ℕ
  pub paid : Bool
  pub next_ack : ℕ
  pub closed : Bool
  pub stamp : ℕ

-- before the first wire
abbrev pub at_start : ℕ → Progress
at_start last = record { last = last; safes = 0; paid = false; next_ack = 0; closed = false; stamp = 0 }

-- These wires are in order, and a check that was fed them has come so far, whatever their stamps.
pub record HasCome {M : Type 0} (progress : Progress) (wires : List (Wire M)) : Type 0 where
  pub order : IsInOrder progress.last wires
  pub safes : progress.safes ≡ safes_of wires
  pub paid : IsTrue progress.paid ↔ Contains (payloads_of wires) progress.safes
  pub payloads : (q : ℕ) → Contains (payloads_of wires) q → q ≤ progress.safes
  pub acks : (q : ℕ) → (progress.next_ack ≤ q) ↔ ((r : ℕ) → Contains (acks_of wires) r → r < q)
  pub closed : IsTrue progress.closed ↔ Contains wires Close

-- These wires are in order, their stamps rise, and a check that was fed them has come so far.
pub record WasFed {M : Type 0} (progress : Progress) (items : List (Stamped M)) : Type 0 where
  pub come : HasCome progress (wires_of items)
  pub rise : StampsRise items
  pub stamp : progress.stamp ≡ last_stamp items

-- whether a wire may come next, before a close
abbrev pub may_come : {M : Type 0} → Progress → Wire M → Bool
may_come p (Payload q x) = nat_eq q p.safes && (not p.paid && nat_lt q p.last)
may_come p (Ack q) = nat_le p.next_ack q && nat_lt q p.last
may_come p (Safe q) = nat_eq q p.safes && nat_lt q p.last
may_come p Close = nat_eq p.safes p.last

-- whether the order goes on by a wire
abbrev pub goes_on : {M : Type 0} → Progress → Wire M → Bool
goes_on p w = not p.closed && may_come p w

-- how far the wires have come by one more
abbrev pub advanced : {M : Type 0} → Progress → Wire M → Progress
advanced p (Payload q x) = record p { paid = true }
advanced p (Ack q) = record p { next_ack = q + 1 }
advanced p (Safe q) = record p { safes = q + 1; paid = false }
advanced p Close = record p { closed = true }

-- what a wire makes of a check: one that doesn't go on leaves it
abbrev pub after_wire : {M : Type 0} → Progress → Wire M → Progress
after_wire p w = if goes_on p w then advanced p w else p
