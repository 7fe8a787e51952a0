-- The plan: each port to a parent brought a colour (Working.brought), so every forest is ready to be turned
-- (Working.ready); then colours and those kept are the definition's (turned), the node is the definition's (worked) and
-- keeps its invariant (stays), whether or not its children are told.
use Rattle.std.proofs.Common.{◌≡◌, ◌≤◌, ℕ, List, length, ap, sym, ◌∙◌, subst}
use Rattle.interference.specs.declared.limits.TheConstants.{MAX_DEGREE}
use Rattle.std.proofs.lemmas.List.FromFn.{length-map-range_with_len}
use Rattle.forests.specs.declared.numbering.Role.{Role}
use Rattle.colour_rules.specs.Node.{HasForests, Node}
use Rattle.colour_rules.specs.InForests.{before_in, colours_in}
use Rattle.colour_rules.specs.Program.{AreReady, BringColours, from_parent, kept_all, next_colours, next_kept, turned_all}
use Rattle.colour_rules.specs.contracts.node.ColourNode.{the_view}
use Rattle.colour_rules.proofs.Valid.{IsValid, valid-seen, valid-colours}
use Rattle.colour_rules.proofs.Working.{brought, ready, kept-below}
use Rattle.colour_rules.proofs.Worked.{colours-are, kept-are, tells-on, tells-nothing}
use Rattle.colour_rules.proofs.node.ColourNode.work.Goals as goal
use Rattle.colour_rules.proofs.node.ColourNode.work.Goals.{After-turn_all}

pub turn_all-requires-clause-brought : goal.turn_all-requires-clause-brought
turn_all-requires-clause-brought c =
    let node = c.args.self.now in
    let slots = c.args.inbox.now.slots in
    let v : IsValid node = valid-seen c.self.inside node c.self.view_is c.self.invariant in
    let size : length node.before ≡ node.sizes.forests = v.each_before in
    let came : BringColours (length node.before) node.roles slots =
    record {
      few = subst (λ (n : ℕ). n ≤ MAX_DEGREE) (sym size) v.forests_fit;
      ports = c.requires.accepted.size;
      known = subst (λ (n : ℕ). HasForests n node.roles) (sym size) v.known;
      colours = λ port f h up. let b = brought node c.args.reduction slots c.requires.accepted port f h up in (b.0, b.1);
    } in
    subst (λ (roles : List Role). BringColours (length (before_in c.self.inside.colours)) roles slots) (sym c.deref.ensures.value)
    (subst (λ (n : Node). BringColours (length n.before) n.roles slots) (sym c.self.view_is) came)

pub turn_all-requires-clause-ready : goal.turn_all-requires-clause-ready
turn_all-requires-clause-ready c =
    let node = c.args.self.now in
    let slots = c.args.inbox.now.slots in
    let v : IsValid node = valid-seen c.self.inside node c.self.view_is c.self.invariant in
    let inside = the_view c.self.inside in
    subst (λ (roles : List Role). AreReady c.args.reduction inside.colours inside.before (λ f. from_parent f roles slots)) (sym c.deref.ensures.value)
    (subst (λ (n : Node). AreReady c.args.reduction n.colours n.before (λ f. from_parent f n.roles slots)) (sym c.self.view_is)
    (λ f h. ready node c.args.reduction slots c.requires.accepted v.six (v.each_before ∙ sym v.each_colour) f h))

-- the colours after the turn, and those kept beside them
turned : (c : After-turn_all) → (colours_in c.self.inside.id c.turn_all.new.self ≡ next_colours c.args.self.now c.args.reduction c.args.inbox.now.slots) ×
    (before_in c.turn_all.new.self ≡ next_kept c.args.self.now c.args.reduction)
turned c =
    let node = c.args.self.now in
    let slots = c.args.inbox.now.slots in
    let inside = the_view c.self.inside in
    let v : IsValid node = valid-seen c.self.inside node c.self.view_is c.self.invariant in (
      c.turn_all.ensures.colours
          ∙ (ap (λ (roles : List Role). turned_all c.args.reduction inside.colours inside.before (λ f. from_parent f roles slots)) c.deref.ensures.value
          ∙ ap (λ (n : Node). turned_all c.args.reduction n.colours n.before (λ f. from_parent f n.roles slots)) c.self.view_is
          ∙ colours-are node c.args.reduction v.each_colour slots),
      c.turn_all.ensures.before
          ∙ (ap (λ (n : Node). kept_all c.args.reduction n.colours n.before) c.self.view_is ∙ kept-are node c.args.reduction v.each_colour),
    )

worked : (c : After-turn_all) → record (the_view c.self.inside) {
  colours = colours_in c.self.inside.id c.turn_all.new.self;
  before = before_in c.turn_all.new.self;
} ≡ record c.args.self.now {
  colours =
      next_colours c.args.self.now c.args.reduction c.args.inbox.now.slots;
  before = next_kept c.args.self.now c.args.reduction;
}
worked c =
    let node = c.args.self.now in
    let colours : List ℕ = colours_in c.self.inside.id c.turn_all.new.self in
    let before : List ℕ = before_in c.turn_all.new.self in
    ap (λ (n : Node). record n { colours = colours; before = before }) c.self.view_is
    ∙ (ap (λ (cs : List ℕ). record node { colours = cs; before = before }) (turned c).0
    ∙ ap (λ (cs : List ℕ). record node { colours = next_colours node c.args.reduction c.args.inbox.now.slots; before = cs }) (turned c).1)

stays : (c : After-turn_all) → IsValid (record (the_view c.self.inside) {
  colours = colours_in c.self.inside.id c.turn_all.new.self;
  before = before_in c.turn_all.new.self;
})
stays c =
    let node = c.args.self.now in
    let valid : IsValid node = valid-seen c.self.inside node c.self.view_is c.self.invariant in
    subst IsValid (sym (worked c))
    (valid-colours node (next_colours node c.args.reduction c.args.inbox.now.slots) (next_kept node c.args.reduction) valid
    (length-map-range_with_len _ 0 node.sizes.forests) (length-map-range_with_len _ 0 node.sizes.forests)
    (kept-below node c.args.reduction c.args.inbox.now.slots c.requires.accepted valid.six (valid.each_before ∙ sym valid.each_colour) valid.each_colour))

pub invariant_of-self : goal.invariant_of-self
invariant_of-self c = (stays (goal.at.invariant_of-self c).After-turn_all, c.self.invariant.1)

pub invariant_of-self-else-not-is_last : goal.invariant_of-self-else-not-is_last
invariant_of-self-else-not-is_last c = (stays (goal.at.invariant_of-self-else-not-is_last c).After-turn_all, c.self.invariant.1)

pub returns-then-not-is_last : goal.returns-then-not-is_last
returns-then-not-is_last c =
    record {
      node =
          tells-on c.args.self.now _ c.args.reduction _ _ (worked (goal.at.returns-then-not-is_last c).After-turn_all) c.tell_colours.new.out
          (sym c.if-not-is_last.ensures) c.tell_colours.ensures;
    }

pub returns-else-not-is_last : goal.returns-else-not-is_last
returns-else-not-is_last c =
    record {
      node =
          tells-nothing c.args.self.now _ c.args.reduction _ _ (worked (goal.at.returns-else-not-is_last c).After-turn_all) c.args.out.now
          (sym c.if-not-is_last.ensures) c.requires.out;
    }
