-- The plan: a payload that came alone is passed, and so are the ports after it (alone); the set with its colour is the
-- set with all that came. If more came, all of it is passed, so its colours are low enough to be put in.
use Rattle.std.proofs.Common.{◌≡◌, ℕ, ◌<◌, ◌≤◌, List, length, refl, ap, sym, subst, ◌∙◌, arith}
use Rattle.std.specs.Prelude.{IsTrue, Option, false}
use Rattle.std.specs.Ordering.{nat_cmp}
use Rattle.std.specs.FinSet.{FinSet}
use Rattle.node_api.specs.Boxes.{HasFrom, Mail, unread}
use Rattle.node_api.specs.Program.{span}
use Rattle.colour_rules.specs.declared.payload.Payload.{Payload}
use Rattle.colour_rules.specs.declared.phase.Phase.TheVariants.{Merge}
use Rattle.colour_rules.specs.Choice.{with_taken}
use Rattle.colour_rules.specs.Taken.{chosen_in, room_of}
use Rattle.colour_rules.specs.Idle.{IsPassed, IsTaken}
use Rattle.colour_rules.specs.Node.{Node, ports}
use Rattle.colour_rules.specs.contracts.node.ColourNode.{the_view}
use Rattle.colour_rules.proofs.Bounds.{chosen-within}
use Rattle.colour_rules.proofs.Looping.{within_room}
use Rattle.colour_rules.proofs.Taking.{one-taken, passed-end, passed-fine}
use Rattle.colour_rules.proofs.Valid.{invariant-taken}
use Rattle.colour_rules.proofs.Walking.{looked-start}
use Rattle.colour_rules.proofs.node.ColourNode.hear_all.Goals as goal

-- the first that is taken is taken from the slots of the inbox
taken-first : (node : Node) (f : ℕ) (slots : List (Option Payload)) (colour : ℕ) (mail new : Mail Payload) → mail ≡ unread slots →
    IsTaken node f mail colour new → IsTaken node f (unread slots) colour new
taken-first node f slots colour mail new first taken = subst (λ (read : Mail Payload). IsTaken node f read colour new) first taken

pub returns-then-not-has_next-clause-accepted : goal.returns-then-not-has_next-clause-accepted
returns-then-not-has_next-clause-accepted c alone =
    let taken = taken-first c.args.self.now c.args.forest c.args.inbox.now.slots c.in-Some.first c.reader-reader.result c.take_next.new.reader
    c.reader-reader.ensures.unread c.in-Some.ensures.taken in
    passed-end c.args.self.now c.args.forest c.args.inbox.now.slots c.requires.ports c.take_next.new.reader taken.reads.same
    (omega (arith, taken.reads.within, c.requires.ports)) (λ h. let e : IsTrue false = c.if-not-has_next.ensures.more.1 h in absurd (cc)) taken.passed

pub returns-then-not-has_next-clause-node : goal.returns-then-not-has_next-clause-node
returns-then-not-has_next-clause-node c =
    let taken = taken-first c.args.self.now c.args.forest c.args.inbox.now.slots c.in-Some.first c.reader-reader.result c.take_next.new.reader
    c.reader-reader.ensures.unread c.in-Some.ensures.taken in
    ap (λ (set : FinSet nat_cmp). record (the_view c.self.inside) { chosen = chosen_in c.add.new.self; barred = set }) c.add.ensures.barred
    ∙ ap (λ (set : FinSet nat_cmp). record (the_view c.self.inside) { chosen = set })
    (c.add.ensures.chosen ∙ one-taken (chosen_in c.self.inside.taken) c.args.inbox.now.slots c.take_next.new.reader c.in-Some.first taken.reads
    (λ h. let e : IsTrue false = c.if-not-has_next.ensures.more.1 h in absurd (cc)))
    ∙ ap (λ (node : Node). with_taken node c.args.inbox.now.slots) c.self.view_is

pub add_all-requires : goal.add_all-requires
add_all-requires c =
    record {
      colours = λ port colour came.
          let node = c.args.self.now in
          let slots = c.args.inbox.now.slots in
          let taken = taken-first node c.args.forest slots c.in-Some.first c.reader-reader.result c.take_next.new.reader c.reader-reader.ensures.unread
          c.in-Some.ensures.taken in
          let passed : IsPassed node c.args.forest slots (ports node) =
          subst (λ (read : List (Option Payload)). IsPassed node c.args.forest read (ports node)) taken.reads.same
          (c.if-not-takes_rest.ensures.accepted refl) in
          let low : colour ≤ span node.sizes =
          chosen-within node c.args.forest 1 slots c.requires.ports
          (passed-fine node c.args.forest slots c.requires.ports passed 1 (omega arith)) port colour came in
          let most : span node.sizes < room_of c.self.inside.taken =
          subst (λ (n : Node). span n.sizes < room_of c.self.inside.taken) c.self.view_is c.self.invariant.1 in
          omega (arith, low, most);
    }

pub take_next-requires-clause-more : goal.take_next-requires-clause-more
take_next-requires-clause-more c = subst (λ (mail : Mail Payload). HasFrom mail.slots mail.cursor) (sym c.reader-reader.ensures.unread) c.requires.more

pub take_next-requires-clause-ports : goal.take_next-requires-clause-ports
take_next-requires-clause-ports c = ap (λ (mail : Mail Payload). length mail.slots) c.reader-reader.ensures.unread ∙ c.requires.ports

pub take_next-requires-clause-passed : goal.take_next-requires-clause-passed
take_next-requires-clause-passed c s later =
    looked-start c.args.self.now (Merge c.args.forest s) c.reader-reader.result.slots c.reader-reader.result.cursor
    (ap (λ (mail : Mail Payload). mail.cursor) c.reader-reader.ensures.unread)

pub returns-in_default-clause-accepted : goal.returns-in_default-clause-accepted
returns-in_default-clause-accepted c wrong = absurd (cc)

pub returns-in_default-clause-node : goal.returns-in_default-clause-node
returns-in_default-clause-node c = refl

pub add-requires : goal.add-requires
add-requires c =
    let taken = taken-first c.args.self.now c.args.forest c.args.inbox.now.slots c.in-Some.first c.reader-reader.result c.take_next.new.reader
    c.reader-reader.ensures.unread c.in-Some.ensures.taken in
    within_room c.in-Some.first (span c.args.self.now.sizes) (room_of c.self.inside.taken) taken.low
    (subst (λ (n : Node). span n.sizes < room_of c.self.inside.taken) c.self.view_is c.self.invariant.1)

pub invariant_of-self : goal.invariant_of-self
invariant_of-self c = invariant-taken c.self.inside c.add.new.self c.self.invariant c.add.ensures.barred c.add.ensures.room

pub takes_rest-requires-clause-ports : goal.takes_rest-requires-clause-ports
takes_rest-requires-clause-ports c =
    let taken = taken-first c.args.self.now c.args.forest c.args.inbox.now.slots c.in-Some.first c.reader-reader.result c.take_next.new.reader
    c.reader-reader.ensures.unread c.in-Some.ensures.taken in
    ap length taken.reads.same ∙ c.requires.ports

pub takes_rest-requires-clause-within : goal.takes_rest-requires-clause-within
takes_rest-requires-clause-within c =
    let taken = taken-first c.args.self.now c.args.forest c.args.inbox.now.slots c.in-Some.first c.reader-reader.result c.take_next.new.reader
    c.reader-reader.ensures.unread c.in-Some.ensures.taken in
    subst (λ (n : ℕ). c.take_next.new.reader.cursor ≤ n) c.requires.ports taken.reads.within

pub takes_rest-requires-clause-passed : goal.takes_rest-requires-clause-passed
takes_rest-requires-clause-passed c =
    let taken = taken-first c.args.self.now c.args.forest c.args.inbox.now.slots c.in-Some.first c.reader-reader.result c.take_next.new.reader
    c.reader-reader.ensures.unread c.in-Some.ensures.taken in
    subst (λ (read : List (Option Payload)). IsPassed c.args.self.now c.args.forest read c.take_next.new.reader.cursor) (sym taken.reads.same) taken.passed

pub returns-then-not-takes_rest-clause-accepted : goal.returns-then-not-takes_rest-clause-accepted
returns-then-not-takes_rest-clause-accepted c wrong = absurd (cc)

pub returns-then-not-takes_rest-clause-node : goal.returns-then-not-takes_rest-clause-node
returns-then-not-takes_rest-clause-node c = refl

pub invariant_of-self-2 : goal.invariant_of-self-2
invariant_of-self-2 c = invariant-taken c.self.inside c.add_all.new.self c.self.invariant c.add_all.ensures.barred c.add_all.ensures.room

pub returns-clause-accepted : goal.returns-clause-accepted
returns-clause-accepted c true =
    let taken = taken-first c.args.self.now c.args.forest c.args.inbox.now.slots c.in-Some.first c.reader-reader.result c.take_next.new.reader
    c.reader-reader.ensures.unread c.in-Some.ensures.taken in
    subst (λ (read : List (Option Payload)). IsPassed c.args.self.now c.args.forest read (ports c.args.self.now)) taken.reads.same
    (c.if-not-takes_rest.ensures.accepted refl)

pub returns-clause-node : goal.returns-clause-node
returns-clause-node c =
    ap (λ (set : FinSet nat_cmp). record (the_view c.self.inside) { chosen = chosen_in c.add_all.new.self; barred = set }) c.add_all.ensures.barred
    ∙ ap (λ (set : FinSet nat_cmp). record (the_view c.self.inside) { chosen = set })
    c.add_all.ensures.chosen
    ∙ ap (λ (node : Node). with_taken node c.args.inbox.now.slots) c.self.view_is
