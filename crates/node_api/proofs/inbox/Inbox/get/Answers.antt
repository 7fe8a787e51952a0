use Rattle.std.proofs.Common.{◌<◌, length, ap, sym, ◌∙◌, arith}
use Rattle.node_api.specs.Boxes.{Mail, at_port}
use Rattle.node_api.proofs.Counting.{count-some}
use Rattle.node_api.proofs.SlotCursor.{get-read}
use Rattle.node_api.proofs.Slots.{at-marked, at-unmarked, length-slots_of}
use Rattle.node_api.proofs.inbox.Inbox.get.Goals as goal

pub has-requires : goal.has-requires
has-requires g c =
    let a = c.self.inside in
    record { place = omega (arith, c.requires.port, ap (λ (m : Mail _). length m.slots) c.self.view_is, length-slots_of a.marks a.slots.items) }

pub index-requires : goal.index-requires
index-requires g c =
    let a = c.self.inside in
    let below : c.args.port < length a.marks =
    omega (arith, c.requires.port, ap (λ (m : Mail _). length m.slots) c.self.view_is, length-slots_of a.marks a.slots.items) in
    let there : 0 < length a.slots.items =
    c.self.invariant.made.some (count-some a.marks c.args.port (sym c.has.ensures.marked ∙ c.if-has.true)) in
    omega (arith, below, c.self.invariant.made.all there, a.slots.ok.0)

pub returns-then-has : goal.returns-then-has
returns-then-has g c =
    let a = c.self.inside in
    let below : c.args.port < length a.marks =
    omega (arith, c.requires.port, ap (λ (m : Mail _). length m.slots) c.self.view_is, length-slots_of a.marks a.slots.items) in
    let marked = sym c.has.ensures.marked ∙ c.if-has.true in
    let there : 0 < length a.slots.items = c.self.invariant.made.some (count-some a.marks c.args.port marked) in
    let inside : c.args.port < length a.slots.items = omega (arith, below, c.self.invariant.made.all there) in
    record {
      payload = sym (ap (λ (m : Mail _). at_port m.slots c.args.port) (sym c.self.view_is)
          ∙ (at-marked a.marks a.slots.items c.args.port below marked
          ∙ get-read a.slots.items c.args.port c.index.result.now inside c.index.ensures));
    }

pub returns-else-has : goal.returns-else-has
returns-else-has g c =
    let a = c.self.inside in
    record {
      payload = sym (ap (λ (m : Mail _). at_port m.slots c.args.port) (sym c.self.view_is)
          ∙ at-unmarked a.marks a.slots.items c.args.port (sym c.has.ensures.marked ∙ c.if-has.false));
    }
