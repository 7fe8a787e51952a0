use Rattle.std.proofs.Common.{Some, length, set, ap, sym, ◌∙◌, arith}
use Rattle.node_api.specs.Boxes.{at_port}
use Rattle.alpha_core.proofs.Taken.{even-changed, even-slots, odd-changed, odd-slots}
use Rattle.alpha_core.proofs.inboxes.Inboxes.put.Goals as goal

pub put-requires-clause-port : goal.put-requires-clause-port
put-requires-clause-port g c =
    let a = c.self.inside in
    let slots = odd-slots c.args.when a.at_odd a.even.slots a.odd.slots c.self.view_is (sym c.is_in_odd.ensures.odd ∙ c.if-is_in_odd.true) in
    omega (arith, c.requires.port, ap length slots)

pub put-requires-clause-empty : goal.put-requires-clause-empty
put-requires-clause-empty g c =
    let a = c.self.inside in
    let slots = odd-slots c.args.when a.at_odd a.even.slots a.odd.slots c.self.view_is (sym c.is_in_odd.ensures.odd ∙ c.if-is_in_odd.true) in
    ap (λ l. at_port l c.args.port) slots ∙ c.requires.empty

pub returns-then-is_in_odd : goal.returns-then-is_in_odd
returns-then-is_in_odd g c =
    let a = c.self.inside in
    let odd = sym c.is_in_odd.ensures.odd ∙ c.if-is_in_odd.true in
    let slots = odd-slots c.args.when a.at_odd a.even.slots a.odd.slots c.self.view_is odd in
    record {
      put = odd-changed c.args.when a.at_odd a.even.slots a.odd.slots c.self.view_is odd
          (c.put.ensures.slots ∙ ap (λ l. set l c.args.port (Some c.args.payload)) slots);
    }

pub put-requires-else-is_in_odd-clause-port : goal.put-requires-else-is_in_odd-clause-port
put-requires-else-is_in_odd-clause-port g c =
    let a = c.self.inside in
    let slots = even-slots c.args.when a.at_odd a.even.slots a.odd.slots c.self.view_is (sym c.is_in_odd.ensures.odd ∙ c.if-is_in_odd.false) in
    omega (arith, c.requires.port, ap length slots)

pub put-requires-else-is_in_odd-clause-empty : goal.put-requires-else-is_in_odd-clause-empty
put-requires-else-is_in_odd-clause-empty g c =
    let a = c.self.inside in
    let slots = even-slots c.args.when a.at_odd a.even.slots a.odd.slots c.self.view_is (sym c.is_in_odd.ensures.odd ∙ c.if-is_in_odd.false) in
    ap (λ l. at_port l c.args.port) slots ∙ c.requires.empty

pub returns-else-is_in_odd : goal.returns-else-is_in_odd
returns-else-is_in_odd g c =
    let a = c.self.inside in
    let even = sym c.is_in_odd.ensures.odd ∙ c.if-is_in_odd.false in
    let slots = even-slots c.args.when a.at_odd a.even.slots a.odd.slots c.self.view_is even in
    record {
      put = even-changed c.args.when a.at_odd a.even.slots a.odd.slots c.self.view_is even
          (c.put-else-is_in_odd.ensures.slots ∙ ap (λ l. set l c.args.port (Some c.args.payload)) slots);
    }
