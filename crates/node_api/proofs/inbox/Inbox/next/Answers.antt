use Rattle.std.proofs.Common.{◌+◌, sym, arith, subst}
use Rattle.node_api.specs.Boxes.{Mail, HasFrom, Reads}
use Rattle.node_api.specs.Slots.{slots_of}
use Rattle.node_api.proofs.SlotCursor.{get-read, port-in_slots, read-next, reads-port}
use Rattle.node_api.proofs.Slots.{some-below, some-marked}
use Rattle.node_api.proofs.inbox.Inbox.next.Goals as goal

pub first_from-port-requires : goal.first_from-port-requires
first_from-port-requires g c =
    let a = c.self.inside in
    let (port, later, below, some) = subst (λ (m : Mail g.row.T.Denot). HasFrom m.slots m.cursor) (sym c.self.view_is) c.requires.more in
    record { some = (port, later, some-below a.marks a.slots.items port some, some-marked a.marks a.slots.items port some) }

pub index-requires : goal.index-requires
index-requires g c =
    let a = c.self.inside in
    let keeps = c.self.invariant in
    let f = c.first_from-port.ensures in
    omega (
      arith,
      port-in_slots a.marks a.slots.items a.read a.cursor c.first_from-port.result keeps.made keeps.read f.later f.within f.marked f.first,
      a.slots.ok.0,
    )

pub invariant_of-self : goal.invariant_of-self
invariant_of-self g c =
    let a = c.self.inside in
    let keeps = c.self.invariant in
    let f = c.first_from-port.ensures in
    record {
      degree = keeps.degree;
      room = keeps.room;
      made = keeps.made;
      read = read-next a.marks a.slots.items a.read a.cursor c.first_from-port.result keeps.made keeps.read f.later f.within f.marked f.first;
    }

pub returns : goal.returns
returns g c =
    let a = c.self.inside in
    let f = c.first_from-port.ensures in
    let port = c.first_from-port.result in
    let inside = port-in_slots a.marks a.slots.items a.read a.cursor port c.self.invariant.made c.self.invariant.read f.later f.within f.marked f.first in
    record {
      reads = subst (λ (mail : Mail g.row.T.Denot). Reads mail c.index.result.now (record { slots = slots_of a.marks a.slots.items; cursor = port + 1 }))
          c.self.view_is (reads-port a.marks a.slots.items a.read a.cursor port c.self.invariant.made c.self.invariant.read f.later f.within f.marked f.first
          c.index.result.now (get-read a.slots.items port c.index.result.now inside c.index.ensures));
    }
