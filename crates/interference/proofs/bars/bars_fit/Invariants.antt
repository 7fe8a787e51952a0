use Rattle.interference.proofs.BarCounts.{FitSoFar}
use Rattle.interference.proofs.bars.bars_fit.Given as goal

abbrev pub invariant-loop-bar : goal.invariant-loop-bar
invariant-loop-bar l = FitSoFar l.nodes l.bars l.last l.count l.bar-index
