-- The plan: of the forests before that of the loop those have turned of which nothing was heard (Roots.roots-below).
use Rattle.std.proofs.Common.{◌+◌, ◌<◌, ℕ, length, sym, ◌∙◌, subst, arith}
use Rattle.std.specs.Prelude.{Bool, None}
use Rattle.std.specs.FinSet.{contains}
use Rattle.std.proofs.lemmas.List.{length-map}
use Rattle.colour_rules.specs.declared.colours.InForests.{InForests}
use Rattle.colour_rules.specs.InForests.{AreTurned}
use Rattle.colour_rules.proofs.Roots.{roots-below, roots-start, roots-ready, roots-more, roots-skip, roots-end}
use Rattle.colour_rules.proofs.colours.InForests.turn_as_root.Goals as goal
use Rattle.colour_rules.proofs.colours.InForests.turn_as_root.Goals.{then-not-has, else-not-has}

pub loop-forest-init : goal.loop-forest-init
loop-forest-init c = roots-start c.args.reduction c.args.id (contains c.args.heard.now) c.args.self.now

pub turn-requires-clause-ready : goal.turn-requires-clause-ready
turn-requires-clause-ready c =
    let f : ℕ = c.loop-forest.forest in
    let here : f < length c.args.self.now.each.items = omega (arith, c.loop-forest-test.true, c.len-forest-end.ensures) in
    roots-ready c.args.reduction c.args.id (contains c.args.heard.now) c.args.self.now f c.loop-forest.self c.loop-forest.invariant here
    (c.requires.ready f (omega (arith, here, length-map c.args.self.now.each.items (λ one. one.before))) (sym c.has.ensures ∙ c.if-not-has.true))

pub loop-forest-preserved : goal.loop-forest-preserved
loop-forest-preserved c =
    let f : ℕ = c.loop-forest.forest in
    let heard : ℕ → Bool = contains c.args.heard.now in
    let old : InForests = c.args.self.now in
    let mid : InForests = c.loop-forest.self in
    let turns : ℕ → Bool = roots-below c.args.reduction c.args.id heard old (f + 1) in
    let so_far : InForests → Type 0 = λ new. AreTurned c.args.reduction c.args.id (λ g. None) turns old new in
    let here : f < length old.each.items = omega (arith, c.loop-forest-test.true, c.len-forest-end.ensures) in
    elim c.if-not-has.branch [
      | then-not-has w ↦
          subst so_far (sym w.self-is)
          (roots-more c.args.reduction c.args.id heard old f mid c.loop-forest.invariant here (sym c.has.ensures ∙ w.if-not-has.true) w.turn.new.self
          w.turn.ensures.seeded w.turn.ensures.each)
      | else-not-has w ↦
          subst so_far (sym w.self-is)
          (roots-skip c.args.reduction c.args.id heard old f mid c.loop-forest.invariant (sym c.has.ensures ∙ w.if-not-has.false))
    ]

pub returns : goal.returns
returns c =
    record {
      turned =
          roots-end c.args.reduction c.args.id (contains c.args.heard.now) c.args.self.now c.loop-forest.forest c.loop-forest.self c.loop-forest.invariant
          (omega (arith, c.loop-forest-test.false, c.len-forest-end.ensures));
    }
