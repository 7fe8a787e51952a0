use Rattle.std.proofs.Common.{◌≡◌, ◌-◌, ◌<◌, ℕ, Bool, false, sym, ◌∙◌, ap, arith}
use Rattle.std.specs.Prelude.{if◌then◌else◌, ◌||◌}
use Rattle.std.specs.Ordering.{nat_cmp}
use Rattle.std.specs.FinSet.{FinSet, contains}
use Rattle.recolouring.specs.Knowing.{raised}
use Rattle.recolouring.proofs.Raising.{raised-step}
use Rattle.recolouring.proofs.node.raised.Goals as goal

pub loop-colour-preserved : goal.loop-colour-preserved
loop-colour-preserved c =
    let chosen : FinSet nat_cmp = c.args.chosen.now in
    let barred : FinSet nat_cmp = c.args.barred.now in
    let colour : ℕ = c.loop-colour.colour in
    let rest : ℕ = raised chosen barred c.args.before (colour - 1 - c.args.before) (c.loop-colour.under || contains chosen colour) in
    record {
      low = omega (arith, c.loop-colour.invariant.low);
      same = ap (λ (under : Bool). raised chosen barred c.args.before (colour - 1 - c.args.before) under) c.is_under-under.ensures
          ∙ (sym (raised-step chosen barred c.args.before colour c.loop-colour.under c.loop-colour-test.true
          ∙ ap (λ (b : Bool). if b then colour else rest) (sym c.is_reached.ensures ∙ c.if-is_reached.false))
          ∙ c.loop-colour.invariant.same);
    }
