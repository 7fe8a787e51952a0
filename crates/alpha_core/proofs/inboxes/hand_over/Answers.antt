-- The plan: the inbox of the pulse's parity has what was taken of this pulse (odd-slots, even-slots). The program reads it from its beginning,
-- and leaves its payloads as they are.
use Rattle.std.proofs.Common.{ℕ, length, sym, ap, ◌∙◌, subst}
use Rattle.node_api.specs.Boxes.{nothing}
use Rattle.node_api.specs.Program.{Matches}
use Rattle.alpha_core.specs.Rows.{taken_by}
use Rattle.alpha_core.specs.declared.when.When.TheVariants.{Now}
use Rattle.alpha_core.proofs.Taken.{even-slots, odd-slots}
use Rattle.alpha_core.proofs.inboxes.hand_over.Goals as goal

pub handle_messages-requires-clause-rewound : goal.handle_messages-requires-clause-rewound
handle_messages-requires-clause-rewound g c = ap (λ m. m.cursor) c.rewind.ensures.unread

pub handle_messages-requires-clause-inbox : goal.handle_messages-requires-clause-inbox
handle_messages-requires-clause-inbox g c =
    let a = c.inboxes.inside in
    let present = odd-slots Now a.at_odd a.even.slots a.odd.slots c.inboxes.view_is c.if-inboxes.true in
    ap (λ m. length m.slots) c.rewind.ensures.unread
    ∙ ap length present ∙ sym c.requires.ports

pub handle_messages-requires-clause-out : goal.handle_messages-requires-clause-out
handle_messages-requires-clause-out g c = c.requires.out ∙ ap (λ (n : ℕ). nothing n) (sym c.requires.ports)

pub returns-then-inboxes-clause-same : goal.returns-then-inboxes-clause-same
returns-then-inboxes-clause-same g c =
    let a = c.inboxes.inside in
    ap (λ l. taken_by a.at_odd a.even.slots l) (c.handle_messages.ensures.inbox ∙ ap (λ m. m.slots) c.rewind.ensures.unread) ∙ c.inboxes.view_is

pub returns-then-inboxes-clause-answer : goal.returns-then-inboxes-clause-answer
returns-then-inboxes-clause-answer g c =
    let a = c.inboxes.inside in
    let present = odd-slots Now a.at_odd a.even.slots a.odd.slots c.inboxes.view_is c.if-inboxes.true in
    let next = g.P.NodeProgram.program.next in
    subst (λ slots. Matches c.handle_messages.result (next c.args.program.now c.args.pulse slots)
    (c.handle_messages.new.self, c.handle_messages.new.out))
    (ap (λ m. m.slots) c.rewind.ensures.unread ∙ present)
    c.handle_messages.ensures.answer

pub returns-then-inboxes-clause-refused : goal.returns-then-inboxes-clause-refused
returns-then-inboxes-clause-refused g c = c.handle_messages.ensures.refused

pub handle_messages-requires-else-inboxes-clause-rewound : goal.handle_messages-requires-else-inboxes-clause-rewound
handle_messages-requires-else-inboxes-clause-rewound g c = ap (λ m. m.cursor) c.rewind-else-inboxes.ensures.unread

pub handle_messages-requires-else-inboxes-clause-inbox : goal.handle_messages-requires-else-inboxes-clause-inbox
handle_messages-requires-else-inboxes-clause-inbox g c =
    let a = c.inboxes.inside in
    let present = even-slots Now a.at_odd a.even.slots a.odd.slots c.inboxes.view_is c.if-inboxes.false in
    ap (λ m. length m.slots) c.rewind-else-inboxes.ensures.unread
    ∙ ap length present ∙ sym c.requires.ports

pub handle_messages-requires-else-inboxes-clause-out : goal.handle_messages-requires-else-inboxes-clause-out
handle_messages-requires-else-inboxes-clause-out g c = c.requires.out ∙ ap (λ (n : ℕ). nothing n) (sym c.requires.ports)

pub returns-else-inboxes-clause-same : goal.returns-else-inboxes-clause-same
returns-else-inboxes-clause-same g c =
    let a = c.inboxes.inside in
    ap (λ l. taken_by a.at_odd l a.odd.slots)
    (c.handle_messages-else-inboxes.ensures.inbox ∙ ap (λ m. m.slots) c.rewind-else-inboxes.ensures.unread) ∙ c.inboxes.view_is

pub returns-else-inboxes-clause-answer : goal.returns-else-inboxes-clause-answer
returns-else-inboxes-clause-answer g c =
    let a = c.inboxes.inside in
    let present = even-slots Now a.at_odd a.even.slots a.odd.slots c.inboxes.view_is c.if-inboxes.false in
    let next = g.P.NodeProgram.program.next in
    subst (λ slots. Matches c.handle_messages-else-inboxes.result (next c.args.program.now c.args.pulse slots)
    (c.handle_messages-else-inboxes.new.self, c.handle_messages-else-inboxes.new.out))
    (ap (λ m. m.slots) c.rewind-else-inboxes.ensures.unread ∙ present)
    c.handle_messages-else-inboxes.ensures.answer

pub returns-else-inboxes-clause-refused : goal.returns-else-inboxes-clause-refused
returns-else-inboxes-clause-refused g c = c.handle_messages-else-inboxes.ensures.refused
