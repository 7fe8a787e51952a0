use Rattle.std.proofs.Common.{◌≡◌, None, length, ap, sym, ◌∙◌, arith, subst}
use Rattle.std.specs.Prelude.{IsTrue, ◌↔◌}
use Rattle.node_api.specs.Boxes.{at_port}
use Rattle.alpha_core.proofs.Taken.{even-slots, odd-slots}
use Rattle.alpha_core.proofs.inboxes.Inboxes.has_none.Goals as goal

pub is_empty-requires : goal.is_empty-requires
is_empty-requires g c =
    let a = c.self.inside in
    let slots = odd-slots c.args.when a.at_odd a.even.slots a.odd.slots c.self.view_is (sym c.is_in_odd.ensures.odd ∙ c.if-is_in_odd.true) in
    record { port = omega (arith, c.requires.port, ap length slots) }

pub returns-then-is_in_odd : goal.returns-then-is_in_odd
returns-then-is_in_odd g c =
    let a = c.self.inside in
    let slots = odd-slots c.args.when a.at_odd a.even.slots a.odd.slots c.self.view_is (sym c.is_in_odd.ensures.odd ∙ c.if-is_in_odd.true) in
    let r = c.is_empty.result in
    record { empty = subst (λ l. IsTrue r ↔ (at_port l c.args.port ≡ None)) slots c.is_empty.ensures.empty }

pub is_empty-requires-else-is_in_odd : goal.is_empty-requires-else-is_in_odd
is_empty-requires-else-is_in_odd g c =
    let a = c.self.inside in
    let slots = even-slots c.args.when a.at_odd a.even.slots a.odd.slots c.self.view_is (sym c.is_in_odd.ensures.odd ∙ c.if-is_in_odd.false) in
    record { port = omega (arith, c.requires.port, ap length slots) }

pub returns-else-is_in_odd : goal.returns-else-is_in_odd
returns-else-is_in_odd g c =
    let a = c.self.inside in
    let slots = even-slots c.args.when a.at_odd a.even.slots a.odd.slots c.self.view_is (sym c.is_in_odd.ensures.odd ∙ c.if-is_in_odd.false) in
    let r = c.is_empty-else-is_in_odd.result in
    record { empty = subst (λ l. IsTrue r ↔ (at_port l c.args.port ≡ None)) slots c.is_empty-else-is_in_odd.ensures.empty }
