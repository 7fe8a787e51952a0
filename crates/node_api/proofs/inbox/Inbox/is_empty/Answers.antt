use Rattle.std.proofs.Common.{◌≡◌, ◌<◌, Bool, length, ap, sym, ◌∙◌, arith, not}
use Rattle.std.proofs.lemmas.Bool.{not-true}
use Rattle.node_api.specs.Boxes.{Mail, at_port}
use Rattle.node_api.proofs.Slots.{at-unmarked, length-slots_of, none-unmarked}
use Rattle.node_api.proofs.inbox.Inbox.is_empty.Goals as goal

pub has-requires : goal.has-requires
has-requires g c =
    let a = c.self.inside in
    record { place = omega (arith, c.requires.port, ap (λ (m : Mail _). length m.slots) c.self.view_is, length-slots_of a.marks a.slots.items) }

pub returns : goal.returns
returns g c =
    let a = c.self.inside in
    let below : c.args.port < length a.marks =
    omega (arith, c.requires.port, ap (λ (m : Mail _). length m.slots) c.self.view_is, length-slots_of a.marks a.slots.items) in
    record {
      empty = (
        λ free. (let free' : not c.has.result ≡ _ = free in
            ap (λ (m : Mail _). at_port m.slots c.args.port) (sym c.self.view_is)
            ∙ at-unmarked a.marks a.slots.items c.args.port (sym c.has.ensures.marked ∙ not-true c.has.result free')),
        λ none. ap (λ (b : Bool). not b) (c.has.ensures.marked ∙ none-unmarked a.marks a.slots.items c.args.port c.self.invariant.made below
            (ap (λ (m : Mail _). at_port m.slots c.args.port) c.self.view_is ∙ none)),
      );
    }
