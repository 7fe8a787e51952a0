use Rattle.std.proofs.Common.{◌+◌, sym, subst}
use Rattle.node_api.specs.Boxes.{Mail, HasFrom, Reads}
use Rattle.node_api.specs.Slots.{slots_of}
use Rattle.node_api.proofs.SlotCursor.{get-read, port-in_slots, read-next, reads-port}
use Rattle.node_api.proofs.Slots.{some-below, some-marked}
use Rattle.node_api.proofs.reader.Reader.next.Goals as goal

pub first_from-port-requires : goal.first_from-port-requires
first_from-port-requires g c =
    let a = c.self.inside in
    let (port, later, below, some) = subst (λ (m : Mail g.row.T.Denot). HasFrom m.slots m.cursor) (sym c.self.view_is) c.requires.more in
    record { some = (port, later, some-below a.marks.now a.slots.now port some, some-marked a.marks.now a.slots.now port some) }

pub bounds-self-inside-port : goal.bounds-self-inside-port
bounds-self-inside-port g c =
    let a = c.self.inside in
    let keeps = c.self.invariant in
    let f = c.first_from-port.ensures in
    port-in_slots a.marks.now a.slots.now a.read a.cursor c.first_from-port.result keeps.made keeps.read f.later f.within f.marked f.first

pub invariant_of-self : goal.invariant_of-self
invariant_of-self g c =
    let a = c.self.inside in
    let keeps = c.self.invariant in
    let f = c.first_from-port.ensures in
    record {
      degree = keeps.degree;
      made = keeps.made;
      read = read-next a.marks.now a.slots.now a.read a.cursor c.first_from-port.result keeps.made keeps.read f.later f.within f.marked f.first;
    }

pub returns : goal.returns
returns g c =
    let a = c.self.inside in
    let f = c.first_from-port.ensures in
    let port = c.first_from-port.result in
    let inside = port-in_slots a.marks.now a.slots.now a.read a.cursor port c.self.invariant.made c.self.invariant.read f.later f.within f.marked f.first in
    let x = c.index-self-port.result in
    let new : Mail g.row.T.Denot = record { slots = slots_of a.marks.now a.slots.now; cursor = port + 1 } in
    record {
      reads = subst (λ (payload : g.row.T.Denot). Reads c.args.self.now payload new) c.index-self-port.is
          (subst (λ (mail : Mail g.row.T.Denot). Reads mail x new) c.self.view_is
          (reads-port a.marks.now a.slots.now a.read a.cursor port c.self.invariant.made c.self.invariant.read f.later f.within f.marked f.first x
          (get-read a.slots.now port x inside c.index-self-port.is)));
    }
