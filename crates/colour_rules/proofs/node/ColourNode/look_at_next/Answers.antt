-- The plan: the payload that is read is the next one, and nothing came before it (read). So the ports before it are
-- passed (there), unless one of them had to bring something; and its own port is passed or refused by its rule.
use Rattle.std.proofs.Common.{rules, ◌≡◌, ℕ, ◌+◌, ◌<◌, ◌≤◌, false, refl, ap, sym, subst, ◌∙◌, arith, slice_index_or}
use Rattle.std.specs.Prelude.{Option, Some}
use Rattle.forests.specs.declared.numbering.Role.TheVariants.{Unknown}
use Rattle.colour_rules.specs.declared.payload.Payload.{Payload}
use Rattle.colour_rules.specs.Node.{ports}
use Rattle.colour_rules.specs.Table.{is_due}
use Rattle.colour_rules.specs.Refusals.{Looked, and_id, first_refusal, port_rule}
use Rattle.colour_rules.proofs.Reading.{Next, next-is}
use Rattle.colour_rules.proofs.Walking.{looked-more, looked-refused, looked-to, looked-missing}
use Rattle.colour_rules.proofs.node.ColourNode.look_at_next.Goals as goal
use Rattle.colour_rules.proofs.node.ColourNode.look_at_next.Goals.{After-sender-port}

read : (c : After-sender-port) → Next c.args.reader.now.slots c.args.from c.sender-port.result c.next-payload.result
read c =
    next-is c.args.reader.now.slots c.args.from c.sender-port.result c.args.reader.now c.next-payload.result c.next-payload.new.self refl c.requires.from
    c.sender-port.ensures.port c.next-payload.ensures.reads

within : (c : After-sender-port) → c.sender-port.result < ports c.args.self.now
within c = omega (arith, (read c).high, c.requires.ports)

there : (c : After-sender-port) → ((q : ℕ) → c.args.from ≤ q → q < c.sender-port.result → is_due c.args.phase (slice_index_or c.args.self.now.roles q Unknown)
    ≡ false) → Looked c.args.self.now c.args.phase c.args.reader.now.slots c.sender-port.result c.args.earlier.now
there c undue =
    let n = read c in
    looked-to c.args.self.now c.args.phase c.args.reader.now.slots c.requires.ports c.args.from c.sender-port.result c.args.earlier.now n.low (omega (
      arith,
      within c,
    )) n.none undue c.requires.looked

pub none_due-requires : goal.none_due-requires
none_due-requires c = let here = within (goal.at.none_due-requires c).After-sender-port in omega (arith, here)

pub look_at-requires : goal.look_at-requires
look_at-requires c = within (goal.at.look_at-requires c).After-sender-port

pub returns-in_err-none_due-clause-answer : goal.returns-in_err-none_due-clause-answer
returns-in_err-none_due-clause-answer c =
    let at = (goal.at.returns-in_err-none_due-clause-answer c).After-sender-port in
    let refused : first_refusal c.args.self.now c.args.phase c.args.reader.now.slots ≡ Some c.in_err-none_due.field-0.0 =
    looked-missing c.args.self.now c.args.phase c.args.reader.now.slots c.requires.ports c.args.from c.sender-port.result c.args.earlier.now
    c.in_err-none_due.field-0.0 (omega (arith, within at)) (read at).none c.in_err-none_due.ensures c.requires.looked in
    search rules

pub returns-in_err-look_at-clause-answer : goal.returns-in_err-look_at-clause-answer
returns-in_err-look_at-clause-answer c =
    let at = (goal.at.returns-in_err-look_at-clause-answer c).After-sender-port in
    let broken = c.in_err-look_at.ensures in
    let refused : first_refusal c.args.self.now c.args.phase c.args.reader.now.slots ≡ Some c.in_err-look_at.field-0.0 =
    looked-refused c.args.self.now c.args.phase c.args.reader.now.slots c.requires.ports c.sender-port.result c.in_err-look_at.field-0.0.rule
    c.args.earlier.now (within at)
    (ap (port_rule c.args.self.now c.args.earlier.now c.args.phase (slice_index_or c.args.self.now.roles c.sender-port.result Unknown)) (read at).here ∙
    broken.0) (there at c.in_ok-none_due.ensures)
    ∙ ap (λ port. Some record c.in_err-look_at.field-0.0 { port = port }) (sym broken.1) in
    search rules

pub returns-clause-answer : goal.returns-clause-answer
returns-clause-answer c =
    let at = (goal.at.returns-clause-answer c).After-sender-port in
    let more : Looked c.args.self.now c.args.phase c.args.reader.now.slots (c.sender-port.result + 1) (and_id c.args.earlier.now (Some c.next-payload.result)) =
    subst (λ (slot : Option Payload). Looked c.args.self.now c.args.phase c.args.reader.now.slots (c.sender-port.result + 1) (and_id c.args.earlier.now slot))
    (read at).here
    (looked-more c.args.self.now c.args.phase c.args.reader.now.slots c.requires.ports c.sender-port.result c.args.earlier.now (within at)
    (ap (port_rule c.args.self.now c.args.earlier.now c.args.phase (slice_index_or c.args.self.now.roles c.sender-port.result Unknown)) (read at).here ∙
    c.in_ok-look_at.ensures) (there at c.in_ok-none_due.ensures)) in
    subst (λ port. Looked c.args.self.now c.args.phase c.args.reader.now.slots port (and_id c.args.earlier.now (Some c.next-payload.result)))
    c.sender-port.ensures.port more
