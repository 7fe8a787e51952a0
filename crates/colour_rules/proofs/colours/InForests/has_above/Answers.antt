-- The plan: the colour that is looked at is that of the forest (looked), so none before it is too high, and one that
-- is, is one of the list.
use Rattle.std.proofs.Common.{◌≡◌, ◌<◌, ℕ, length, ap, sym, ◌∙◌, arith, inl, inr}
use Rattle.std.specs.Prelude.{slice_index}
use Rattle.std.proofs.lemmas.Bool.{cases_eq}
use Rattle.std.proofs.lemmas.List.{get_or-map, length-map}
use Rattle.colour_rules.specs.Table.{is_above}
use Rattle.colour_rules.specs.InForests.{colour_by, colours_in}
use Rattle.colour_rules.proofs.Highs.{any-at, any-none}
use Rattle.colour_rules.proofs.colours.InForests.has_above.Goals as goal
use Rattle.colour_rules.proofs.colours.InForests.has_above.Goals.{After-own}

looked : (c : After-own) → c.own.result ≡ slice_index (colours_in c.args.id c.args.self.now) c.loop-forest.forest
looked c =
    c.own.ensures
    ∙ (ap (colour_by c.args.id c.args.self.now.is_seeded) c.index.ensures
    ∙ sym (get_or-map (colour_by c.args.id c.args.self.now.is_seeded) c.args.self.now.each.items c.loop-forest.forest c.index.result.now 0 (omega arith)))

pub loop-forest-init : goal.loop-forest-init
loop-forest-init c = λ f h. absurd (omega arith)

pub loop-forest-preserved : goal.loop-forest-preserved
loop-forest-preserved c = λ f h.
    elim (cases_eq f c.loop-forest.forest) [
      | inl here ↦
          ap (λ (g : ℕ). is_above c.args.reduction (slice_index (colours_in c.args.id c.args.self.now) g)) here
          ∙ (sym (ap (is_above c.args.reduction) (looked (goal.at.loop-forest-preserved c).After-own)) ∙ sym c.if-is_above.ensures)
      | inr earlier ↦ c.loop-forest.invariant f (omega arith)
    ]

pub returns-then-is_above : goal.returns-then-is_above
returns-then-is_above c =
    let all = colours_in c.args.id c.args.self.now in
    let within : c.loop-forest.forest < length all =
    omega (arith, length-map c.args.self.now.each.items (colour_by c.args.id c.args.self.now.is_seeded)) in
    sym (any-at (is_above c.args.reduction) all c.loop-forest.forest within
    (sym (ap (is_above c.args.reduction) (looked (goal.at.returns-then-is_above c).After-own)) ∙ sym c.if-is_above.ensures))

pub returns : goal.returns
returns c =
    let all = colours_in c.args.id c.args.self.now in
    sym (any-none (is_above c.args.reduction) all (λ f h. c.loop-forest.invariant f (omega (
      arith,
      length-map c.args.self.now.each.items (colour_by c.args.id c.args.self.now.is_seeded),
    ))))
