-- The plan: at the end of the inbox nothing came to the ports that are left (none), and the look at all ports is what
-- is left of it there (end).
use Rattle.std.proofs.Common.{rules, ◌≡◌, ℕ, ◌<◌, ◌≤◌, false, ap, ◌∙◌, arith, length, take, slice_index_or}
use Rattle.std.specs.Prelude.{Some, None, IsTrue}
use Rattle.forests.specs.declared.numbering.Role.TheVariants.{Unknown}
use Rattle.node_api.specs.Boxes.{at_port}
use Rattle.colour_rules.specs.Node.{Node, ports}
use Rattle.colour_rules.specs.Table.{is_due}
use Rattle.colour_rules.specs.Refusals.{Looked, first_refusal, ids_in}
use Rattle.colour_rules.proofs.Reading.{none-left}
use Rattle.colour_rules.proofs.Walking.{looked-to, looked-missing, looked-end}
use Rattle.colour_rules.proofs.node.ColourNode.look_at_ports.Goals as goal
use Rattle.colour_rules.proofs.node.ColourNode.look_at_ports.Goals.{After-none_due}

all : (c : After-none_due) → c.len-ports.result ≡ ports c.args.self.now
all c = c.len-ports.ensures ∙ (c.self.inside.roles.ok.0 ∙ ap (λ (node : Node). ports node) c.self.view_is)

none : (c : After-none_due) → (q : ℕ) → c.loop-reader.from ≤ q → q < length c.args.inbox.now.slots → at_port c.args.inbox.now.slots q ≡ None
none c =
    none-left c.args.inbox.now.slots c.loop-reader.from c.loop-reader.reader c.loop-reader.invariant.same c.loop-reader.invariant.cursor
    (λ h. let e : IsTrue false = c.loop-reader-test.ensures.more.1 h in (cc))

end : (c : After-none_due) → ((q : ℕ) → c.loop-reader.from ≤ q → q < c.len-ports.result →
    is_due c.args.phase (slice_index_or c.args.self.now.roles q Unknown) ≡ false) → (first_refusal c.args.self.now c.args.phase c.args.inbox.now.slots ≡ None)
    × (take c.loop-reader.count c.loop-reader.identifiers ≡ ids_in c.args.inbox.now.slots)
end c undue =
    let node = c.args.self.now in
    let slots = c.args.inbox.now.slots in
    let ids = take c.loop-reader.count c.loop-reader.identifiers in
    let looked : Looked node c.args.phase slots (ports node) ids =
    looked-to node c.args.phase slots c.requires.ports c.loop-reader.from (ports node) ids c.loop-reader.invariant.within (omega arith)
    (λ q low high. none c q low (omega (arith, high, c.requires.ports)))
    (λ q low high. undue q low (omega (arith, all c, high)))
    c.loop-reader.invariant.looked in
    looked-end node c.args.phase slots c.requires.ports ids looked

pub returns-in_err-none_due-clause-answer : goal.returns-in_err-none_due-clause-answer
returns-in_err-none_due-clause-answer c =
    let at = (goal.at.returns-in_err-none_due-clause-answer c).After-none_due in
    let refused : first_refusal c.args.self.now c.args.phase c.args.inbox.now.slots ≡ Some c.in_err-none_due.field-0.0 =
    looked-missing c.args.self.now c.args.phase c.args.inbox.now.slots c.requires.ports c.loop-reader.from c.len-ports.result
    (take c.loop-reader.count c.loop-reader.identifiers) c.in_err-none_due.field-0.0 (omega (arith, all at))
    (λ q low high. none at q low (omega (arith, all at, high, c.requires.ports))) c.in_err-none_due.ensures c.loop-reader.invariant.looked in
    search rules

pub returns-clause-answer : goal.returns-clause-answer
returns-clause-answer c = (end (goal.at.returns-clause-answer c).After-none_due c.in_ok-none_due.ensures).0

pub returns-clause-came : goal.returns-clause-came
returns-clause-came c = (
  c.loop-reader.invariant.fit,
  (end (goal.at.returns-clause-came c).After-none_due c.in_ok-none_due.ensures).1,
)
