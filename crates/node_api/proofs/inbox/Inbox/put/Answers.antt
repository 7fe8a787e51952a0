-- The port isn't marked, since it is empty; its slot is written and it is marked, so this slot alone is set, and if it is before the cursor one
-- more was read.
use Rattle.std.proofs.Common.{◌≡◌, ◌<◌, ◌+◌, ℕ, Bool, List, true, false, length, set, ap, sym, ◌∙◌, arith, subst}
use Rattle.std.specs.Prelude.{None, Some, slice_set, vec_capacity}
use Rattle.std.proofs.lemmas.List.{length-set}
use Rattle.node_api.specs.Marks.{is_marked}
use Rattle.node_api.specs.Boxes.{Mail, at_port}
use Rattle.node_api.specs.Slots.{AreMade, IsInbox, IsRead, slots_of}
use Rattle.node_api.proofs.Slots.{length-slots_of, none-unmarked}
use Rattle.node_api.proofs.SlotPut.{made-put, read-put_after, read-put_before, slots-put}
use Rattle.node_api.proofs.inbox.Inbox.put.Given.{Over}
use Rattle.node_api.proofs.inbox.Inbox.put.Goals.{After-add}
use Rattle.node_api.proofs.inbox.Inbox.put.Goals as goal

-- an empty port of an inbox isn't marked
port_below : {M : Type 0} (marks : List Bool) (slots : List M) (cursor port : ℕ) (mail : Mail M) →
    record { slots = slots_of marks slots; cursor = cursor } ≡ mail → port < length mail.slots → port < length marks
port_below marks slots cursor port mail is h = omega (arith, h, ap (λ (m : Mail _). length m.slots) is, length-slots_of marks slots)

port_free : {M : Type 0} (marks : List Bool) (slots : List M) (cursor port : ℕ) (mail : Mail M) →
    record { slots = slots_of marks slots; cursor = cursor } ≡ mail → AreMade marks (length slots) →
    port < length mail.slots → at_port mail.slots port ≡ None → is_marked marks port ≡ false
port_free marks slots cursor port mail is made h none =
    none-unmarked marks slots port made (port_below marks slots cursor port mail is h) (ap (λ (m : Mail _). at_port m.slots port) is ∙ none)

pub write_slot-requires-clause-port : goal.write_slot-requires-clause-port
write_slot-requires-clause-port g c =
    let a = c.self.inside in
    omega (arith, c.len.ensures.places, port_below a.marks a.slots.items a.cursor c.args.port c.args.self.now c.self.view_is c.requires.port)

pub add-requires-clause-place : goal.add-requires-clause-place
add-requires-clause-place g c =
    let a = c.self.inside in
    port_below a.marks a.slots.items a.cursor c.args.port c.args.self.now c.self.view_is c.requires.port

pub add-requires-clause-free : goal.add-requires-clause-free
add-requires-clause-free g c =
    let a = c.self.inside in
    port_free a.marks a.slots.items a.cursor c.args.port c.args.self.now c.self.view_is c.self.invariant.made c.requires.port c.requires.empty

-- what holds once the slot is written and the port is marked
module _ (g : Over) (c : After-add g) where
  below : c.args.port < length c.self.inside.marks
  below = port_below c.self.inside.marks c.self.inside.slots.items c.self.inside.cursor c.args.port c.args.self.now c.self.view_is c.requires.port

  free : is_marked c.self.inside.marks c.args.port ≡ false
  free =
      port_free c.self.inside.marks c.self.inside.slots.items c.self.inside.cursor c.args.port c.args.self.now c.self.view_is
      c.self.invariant.made c.requires.port c.requires.empty

  size : length c.write_slot.new.slots.items ≡ length c.self.inside.marks
  size = c.write_slot.ensures.made ∙ c.len.ensures.places

  -- with the count of what was read then
  still_inbox : (read : ℕ) → IsRead (set c.self.inside.marks c.args.port true) read c.self.inside.cursor
      → IsInbox c.add.new.self (vec_capacity c.write_slot.new.slots) (length c.write_slot.new.slots.items) read c.self.inside.cursor
  still_inbox read counted =
      let a = c.self.inside in
      let w = c.write_slot.ensures in
      let marked = sym c.add.ensures.marked in
      record {
        degree = omega (arith, c.self.invariant.degree, ap length c.add.ensures.marked, length-set a.marks c.args.port true);
        room = omega (arith, c.self.invariant.room, w.room, ap length c.add.ensures.marked, length-set a.marks c.args.port true);
        made = subst (λ (marks : List Bool). AreMade marks (length c.write_slot.new.slots.items)) marked
            (made-put a.marks a.slots.items c.write_slot.new.slots.items c.args.port c.args.payload below free c.self.invariant.made size w.here w.others);
        read = subst (λ (marks : List Bool). IsRead marks read a.cursor) marked counted;
      }

  slots_now : slots_of c.add.new.self c.write_slot.new.slots.items ≡ slice_set c.args.self.now.slots c.args.port (Some c.args.payload)
  slots_now =
      let a = c.self.inside in
      let w = c.write_slot.ensures in
      ap (λ (marks : List Bool). slots_of marks c.write_slot.new.slots.items) c.add.ensures.marked
      ∙ (slots-put a.marks a.slots.items c.write_slot.new.slots.items c.args.port c.args.payload below free c.self.invariant.made size w.here w.others
      ∙ ap (λ (m : Mail _). slice_set m.slots c.args.port (Some c.args.payload)) c.self.view_is)

pub invariant_of-self : goal.invariant_of-self
invariant_of-self g c =
    let a = c.self.inside in
    let at = (goal.at.invariant_of-self g c).After-add in
    still_inbox g at (a.read + 1)
    (read-put_before a.marks a.read a.cursor c.args.port c.self.invariant.read (below g at) (free g at) c.if-port-self.true)

pub invariant_of-self-else-port-self : goal.invariant_of-self-else-port-self
invariant_of-self-else-port-self g c =
    let a = c.self.inside in
    let at = (goal.at.invariant_of-self-else-port-self g c).After-add in
    still_inbox g at a.read
    (read-put_after a.marks a.read a.cursor c.args.port c.self.invariant.read (below g at) (free g at) (omega (arith, c.if-port-self.false)))

pub returns-then-port-self-clause-slots : goal.returns-then-port-self-clause-slots
returns-then-port-self-clause-slots g c = slots_now g (goal.at.returns-then-port-self-clause-slots g c).After-add

pub returns-else-port-self-clause-slots : goal.returns-else-port-self-clause-slots
returns-else-port-self-clause-slots g c = slots_now g (goal.at.returns-else-port-self-clause-slots g c).After-add
