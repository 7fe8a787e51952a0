use Rattle.std.proofs.Common.{arith, refl}
use Rattle.stamps.proofs.StepsUp.{next_up, no_rise, rises_by_steps}
use Rattle.stamps.proofs.rise.list_rises.Goals as goal

pub returns-then-entries-i : goal.returns-then-entries-i
returns-then-entries-i g c = (
  λ f. absurd cc,
  λ rises. absurd (no_rise c.args.entries.now c.loop-i.i c.index-entries-i.result c.index-entries-i-in-loop-i.result
      c.loop-i.auto.i c.loop-i-test.true rises c.if-entries-i.true),
)

pub loop-i-preserved : goal.loop-i-preserved
loop-i-preserved g c =
    next_up c.args.entries.now c.loop-i.i c.index-entries-i.result c.index-entries-i-in-loop-i.result
    c.loop-i.auto.i c.loop-i-test.true c.loop-i.invariant c.if-entries-i.false

pub returns : goal.returns
returns g c = (
  λ t. rises_by_steps c.args.entries.now
      (λ k d lt. c.loop-i.invariant k d (let past = c.loop-i-test.false in omega (arith, past, lt))),
  λ rises. refl,
)
