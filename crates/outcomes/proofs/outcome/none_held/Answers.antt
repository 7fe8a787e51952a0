use Rattle.std.proofs.Common.{nat_eq, length, refl, falls}
use Rattle.outcomes.specs.Meets.{history_of_met}
use Rattle.outcomes.specs.Outcome.{none_held}
use Rattle.outcomes.proofs.Every.{all_passed, failed, no_wires, passed}
use Rattle.outcomes.proofs.outcome.none_held.Goals as goal

pub loop-met-init : goal.loop-met-init
loop-met-init g c = refl

pub bounds-row-met-index : goal.bounds-row-met-index
bounds-row-met-index g c = c.loop-met-test.true

pub returns-then-not-is_empty : goal.returns-then-not-is_empty
returns-then-not-is_empty g c = record {
  empty = failed none_held (λ h. nat_eq (length h.held) 0) refl (λ h hs. refl) history_of_met c.args.row.now c.loop-met.met-index
      c.loop-met.invariant c.met-item.result c.loop-met-test.true c.met-item.is
      (no_wires c.met-item.result c.held.result.now _ _ c.held.ensures c.is_empty.ensures c.if-not-is_empty.true);
}

pub loop-met-smaller : goal.loop-met-smaller
loop-met-smaller g c = falls _ _ c.loop-met-test.true

pub loop-met-preserved : goal.loop-met-preserved
loop-met-preserved g c =
    passed none_held (λ h. nat_eq (length h.held) 0) refl (λ h hs. refl) history_of_met c.args.row.now c.loop-met.met-index
    c.loop-met.invariant c.met-item.result c.loop-met-test.true c.met-item.is
    (no_wires c.met-item.result c.held.result.now _ _ c.held.ensures c.is_empty.ensures c.if-not-is_empty.false)

pub returns : goal.returns
returns g c = record {
  empty = all_passed none_held (λ h. nat_eq (length h.held) 0) refl (λ h hs. refl) history_of_met c.args.row.now c.loop-met.met-index
      c.loop-met.invariant c.loop-met-test.false;
}
