-- The plan: a forest that wasn't heard of still waits for the colours that are left to be read (the invariant's `rest`).
-- A payload from a port to a parent is the first of these (Hearing.parent-here), so the forest turns by the colour of its
-- parent (Turned.turned-more); any other payload changes nothing. At the end none is left (Hearing.none-left).
use Rattle.std.proofs.Common.{◌≡◌, ◌≢◌, ◌<◌, ◌==◌, ℕ, List, length, ap, sym, ◌∙◌, subst, arith, drop}
use Rattle.std.specs.Prelude.{◌||◌, Bool, Option, IsTrue, false, true}
use Rattle.std.specs.Ordering.{nat_cmp}
use Rattle.std.specs.FinSet.{FinSet, contains, contains-empty}
use Rattle.std.proofs.lemmas.Bool.Decides.{nat_tests}
use Rattle.std.proofs.lemmas.List.{length-map}
use Rattle.node_api.specs.Boxes.{HasFrom, Mail}
use Rattle.forest_merge.proofs.Sets.{contains-insert_colour}
use Rattle.colour_rules.specs.declared.payload.Payload.{Payload}
use Rattle.colour_rules.specs.InForests.{before_in}
use Rattle.colour_rules.specs.Node.{IsIn}
use Rattle.colour_rules.specs.Program.{from_parent}
use Rattle.colour_rules.proofs.Hearing.{Comes, here, none-left, other-past, parent-here, parent-past}
use Rattle.colour_rules.proofs.Turned.{ready-at, ready-still, turned-more, turned-none}
use Rattle.colour_rules.proofs.colours.InForests.turn_as_child.Goals as goal
use Rattle.colour_rules.proofs.colours.InForests.turn_as_child.Goals.{After-sender, After-colour_of}

pub loop-reader-init : goal.loop-reader-init
loop-reader-init c =
    let roles = c.args.roles.now in
    let slots = c.args.inbox.now.slots in
    record {
      same = ap (λ (mail : Mail Payload). mail.slots) c.reader-reader.ensures.unread;
      turned =
          turned-none c.args.reduction c.args.id (λ f. from_parent f roles slots) (contains c.args.heard.now) c.args.self.now
          (λ f. ap (λ (heard : FinSet nat_cmp). contains heard f) c.requires.none ∙ contains-empty nat_cmp f);
      rest = λ f waits. ap (λ (k : ℕ). from_parent f (drop k roles) (drop k slots)) (ap (λ (mail : Mail Payload). mail.cursor) c.reader-reader.ensures.unread);
    }

-- a payload is read
comes : (c : After-sender) → Comes c.args.roles.now c.args.inbox.now.slots c.loop-reader.reader c.next-payload.new.self c.next-payload.result c.sender.result
comes c =
    record {
      same = c.loop-reader.invariant.same;
      reads = c.next-payload.ensures.reads;
      at = c.sender.ensures.port;
    }

pub bounds : goal.bounds
bounds c = here c.args.roles.now c.args.inbox.now.slots (comes c) c.requires.brought.colours c.requires.brought.ports

-- the forest is one of the node's
in_forests : (c : After-colour_of) → c.in-Up.forest < length c.args.self.now.each.items
in_forests c =
    let roles = c.args.roles.now in
    let inside : c.sender.result < length roles = bounds (goal.at.After-colour_of c).After-sender in
    let known : c.in-Up.forest < length (before_in c.args.self.now) =
    subst (IsIn (length (before_in c.args.self.now))) c.in-Up.is (c.requires.brought.known c.sender.result inside) in
    subst (λ (n : ℕ). c.in-Up.forest < n) (length-map c.args.self.now.each.items (λ one. one.before)) known

-- and waits for the colour that was read
waits : (c : After-colour_of) → contains c.loop-reader.heard c.in-Up.forest ≡ false
waits c = sym c.has.ensures ∙ c.if-not-has.true

came : (c : After-colour_of) → c.colour_of.result ≡ from_parent c.in-Up.forest c.args.roles.now c.args.inbox.now.slots
came c =
    let roles = c.args.roles.now in
    let slots = c.args.inbox.now.slots in
    c.colour_of.ensures
    ∙ (sym
    (parent-here roles slots (comes (goal.at.After-colour_of c).After-sender) c.requires.brought.colours c.requires.brought.ports c.in-Up.forest c.in-Up.is)
    ∙ c.loop-reader.invariant.rest c.in-Up.forest (waits c))

pub turn-requires-clause-forest : goal.turn-requires-clause-forest
turn-requires-clause-forest c =
    let inside : c.in-Up.forest < length c.args.self.now.each.items = in_forests c in
    omega (arith, inside, c.loop-reader.invariant.turned.size, length-map c.loop-reader.self.each.items (λ one. one.before))

pub turn-requires-clause-ready : goal.turn-requires-clause-ready
turn-requires-clause-ready c =
    let parent : ℕ → Option ℕ = λ f. from_parent f c.args.roles.now c.args.inbox.now.slots in
    ready-still c.args.reduction c.args.id parent (contains c.loop-reader.heard) c.args.self.now c.loop-reader.self c.loop-reader.invariant.turned
    c.in-Up.forest (in_forests c) (waits c) c.colour_of.result (came c)
    (ready-at c.args.reduction c.args.id parent c.args.self.now c.requires.ready c.in-Up.forest (in_forests c))

pub loop-reader-preserved-then-not-has : goal.loop-reader-preserved-then-not-has
loop-reader-preserved-then-not-has c =
    let roles = c.args.roles.now in
    let slots = c.args.inbox.now.slots in
    let at = (goal.at.loop-reader-preserved-then-not-has c).After-colour_of in
    let g : ℕ = c.in-Up.forest in
    let heard : FinSet nat_cmp = c.loop-reader.heard in
    let more : (f : ℕ) → contains c.add.new.self f ≡ ((f == g) || contains heard f) =
    λ f. ap (λ (set : FinSet nat_cmp). contains set f) c.add.ensures ∙ contains-insert_colour heard g f in
    let now : contains c.add.new.self g ≡ true = more g ∙ ap (λ (b : Bool). b || contains heard g) (let e : (g == g) ≡ true = grind (arith, nat_tests) in e) in
    let others : (f : ℕ) → f ≢ g → contains c.add.new.self f ≡ contains heard f =
    λ f other. more f ∙ ap (λ (b : Bool). b || contains heard f) (let e : (f == g) ≡ false = grind (arith, nat_tests) in e) in
    record {
      same = c.next-payload.ensures.reads.same ∙ c.loop-reader.invariant.same;
      turned =
          turned-more c.args.reduction c.args.id (λ f. from_parent f roles slots) (contains heard) c.args.self.now c.loop-reader.self
          c.loop-reader.invariant.turned g (in_forests at) (waits at) c.colour_of.result (came at) (contains c.add.new.self) c.turn.new.self now others
          c.turn.ensures.seeded c.turn.ensures.each;
      rest = λ f left.
          let other : f ≢ g = λ same. let e : true ≡ false = sym now ∙ (ap (contains c.add.new.self) (sym same) ∙ left) in cc in
          sym
          (parent-past roles slots (comes (goal.at.After-colour_of at).After-sender) c.requires.brought.colours c.requires.brought.ports g c.in-Up.is f other)
          ∙ c.loop-reader.invariant.rest f (sym (others f other) ∙ left);
    }

pub loop-reader-preserved-else-not-has : goal.loop-reader-preserved-else-not-has
loop-reader-preserved-else-not-has c =
    let roles = c.args.roles.now in
    let slots = c.args.inbox.now.slots in
    let known : contains c.loop-reader.heard c.in-Up.forest ≡ true = sym c.has.ensures ∙ c.if-not-has.false in
    record {
      same = c.next-payload.ensures.reads.same ∙ c.loop-reader.invariant.same;
      turned = c.loop-reader.invariant.turned;
      rest = λ f left.
          let other : f ≢ c.in-Up.forest = λ same. let e : true ≡ false = sym known ∙ (ap (contains c.loop-reader.heard) (sym same) ∙ left) in cc in
          sym
          (parent-past roles slots (comes (goal.at.loop-reader-preserved-else-not-has c).After-sender) c.requires.brought.colours
          c.requires.brought.ports c.in-Up.forest c.in-Up.is f other)
          ∙ c.loop-reader.invariant.rest f left;
    }

pub loop-reader-preserved : goal.loop-reader-preserved
loop-reader-preserved c =
    record {
      same = c.next-payload.ensures.reads.same ∙ c.loop-reader.invariant.same;
      turned = c.loop-reader.invariant.turned;
      rest = λ f left.
          sym
          (other-past c.args.roles.now c.args.inbox.now.slots (comes (goal.at.loop-reader-preserved c).After-sender) c.requires.brought.colours
          c.requires.brought.ports c.in_default.not-Up f)
          ∙ c.loop-reader.invariant.rest f left;
    }

pub returns-clause-rest : goal.returns-clause-rest
returns-clause-rest c f left =
    let cursor = c.loop-reader.reader.cursor in
    let end : HasFrom c.loop-reader.reader.slots cursor → ⊥ = λ more. let e : IsTrue false = c.loop-reader-test.ensures.more.1 more in absurd (cc) in
    sym (c.loop-reader.invariant.rest f left)
    ∙ none-left c.args.roles.now c.args.inbox.now.slots cursor c.requires.brought.colours c.requires.brought.ports
    (subst (λ (slots : List (Option Payload)). HasFrom slots cursor → ⊥) c.loop-reader.invariant.same end) f
