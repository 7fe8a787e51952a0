use Rattle.std.proofs.Common.{◌≡◌, ◌+◌, ◌<◌, ◌≤◌, ℕ, ap, sym, subst, ◌∙◌}
use Rattle.std.specs.Prelude.{◌==◌, if◌then◌else◌, slice_index}
use Rattle.node_api.specs.Program.{span}
use Rattle.colour_rules.specs.Node.{Node}
use Rattle.colour_rules.proofs.Choosing.{old-first, old-later, chooses-at, chooses-never}
use Rattle.colour_rules.proofs.Widths.{fits_next, fits_three, fits_times, fits_pair}
use Rattle.colour_rules.proofs.node.ColourNode.chooses.Goals as goal
use Rattle.colour_rules.proofs.node.ColourNode.chooses.Goals.{After-own-three, Joined-step-eq0, then-step-eq0, else-step-eq0}

-- the old colour is the merged one or the one from before, and no higher than the greatest colour
old_is : (c : Joined-step-eq0) → (c.if-step-eq0.old ≡ (if c.args.step == 0 then c.args.self.now.merged else c.args.self.now.colour_before))
    × (c.if-step-eq0.old ≤ span c.args.self.now.sizes)
old_is c =
    let inside = c.self.inside in
    let most = inside.greatest_degree + inside.greatest_bars in
    subst (λ (n : Node). (c.if-step-eq0.old ≡ (if c.args.step == 0 then n.merged else n.colour_before)) × (c.if-step-eq0.old ≤ span n.sizes)) c.self.view_is
    (elim c.if-step-eq0.branch [
      | then-step-eq0 w ↦ (
        old-first c.args.step c.if-step-eq0.old inside.merged inside.colour_before w.if-step-eq0.true w.old-is,
        subst (λ (n : ℕ). n ≤ most) (sym w.old-is) c.self.invariant.0.merged_low,
      )
      | else-step-eq0 w ↦ (
        old-later c.args.step c.if-step-eq0.old inside.merged inside.colour_before w.if-step-eq0.false w.old-is,
        subst (λ (n : ℕ). n ≤ most) (sym w.old-is) c.self.invariant.0.before_low,
      )
    ])

-- the three-colour is the node's own in the forest
own_is : (c : After-own-three) → c.own-three.result ≡ slice_index c.args.self.now.colours c.args.forest
own_is c = c.own-three.ensures ∙ ap (λ (n : Node). slice_index n.colours c.args.forest) c.self.view_is

pub own-three-requires : goal.own-three-requires
own-three-requires c =
    subst (λ (n : ℕ). c.args.forest < n) (sym (c.self.invariant.0.each_before ∙ ap (λ (n : Node). n.sizes.forests) c.self.view_is)) c.requires.forest

pub span-requires : goal.span-requires
span-requires c = tt

pub from-width-requires : goal.from-width-requires
from-width-requires c = tt

pub overflow_add-width : goal.overflow_add-width
overflow_add-width c = fits_next c.from-width.result (subst (λ (n : ℕ). n < 65536) (sym c.from-width.ensures) c.span.type_inv)

pub overflow_cast-result : goal.overflow_cast-result
overflow_cast-result c = fits_three c.own-three.result c.if-three-le2.true

pub overflow_mul-result : goal.overflow_mul-result
overflow_mul-result c =
    fits_times c.own-three.result c.from-width.result c.if-three-le2.true (subst (λ (n : ℕ). n < 65536) (sym c.from-width.ensures) c.span.type_inv)

pub from-requires : goal.from-requires
from-requires c = tt

pub overflow_add-result : goal.overflow_add-result
overflow_add-result c =
    let low = (old_is (goal.at.overflow_add-result c).Joined-step-eq0).1 in
    fits_pair c.own-three.result c.from-width.result c.from.result c.span.result c.if-three-le2.true c.from-width.ensures c.span.type_inv
    (subst (λ (n : ℕ). n ≤ c.span.result) (sym c.from.ensures) (subst (λ (n : ℕ). c.if-step-eq0.old ≤ n) (sym c.span.ensures) low))

pub returns-then-three-le2 : goal.returns-then-three-le2
returns-then-three-le2 c =
    let old = old_is (goal.at.returns-then-three-le2 c).Joined-step-eq0 in
    chooses-at c.args.self.now c.args.forest c.args.step c.own-three.result (own_is (goal.at.returns-then-three-le2 c).After-own-three)
    c.from-width.result c.from.result (c.from-width.ensures ∙ c.span.ensures) (c.from.ensures ∙ old.0)
    (subst (λ (n : ℕ). n ≤ span c.args.self.now.sizes) (sym c.from.ensures) old.1)

pub returns-else-three-le2 : goal.returns-else-three-le2
returns-else-three-le2 c =
    chooses-never c.args.self.now c.args.forest c.args.step c.own-three.result (own_is (goal.at.returns-else-three-le2 c).After-own-three) c.if-three-le2.false
    c.requires.step
