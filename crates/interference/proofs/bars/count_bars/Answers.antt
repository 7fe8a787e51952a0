use Rattle.std.proofs.Common.{cond, get_or, arith}
use Rattle.std.proofs.lemmas.List.Sums.{sum_by-take-le}
use Rattle.graph_limits.specs.Pairs.{is_bar_at}
use Rattle.interference.proofs.bars.count_bars.Goals as goal

pub overflow_add-counts : goal.overflow_add-counts
overflow_add-counts c =
    let bars = c.args.bars.now in
    let bar = get_or bars c.loop-bar.bar-index (0, 0) in
    let is = c.requires.fit.bars_fit c.loop-bar.bar-index (0, 0) (omega arith) in
    omega (
      arith,
      c.loop-bar.invariant bar.0 (omega (arith, is)),
      sum_by-take-le (λ b. cond (is_bar_at bar.0 b) 1 0) bars c.loop-bar.bar-index,
      c.requires.fit.few bar.0,
    )
