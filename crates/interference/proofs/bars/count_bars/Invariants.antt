use Rattle.std.proofs.Common.{◌≡◌, ◌≤◌, ℕ, slice_index, take}
use Rattle.graph_limits.specs.Pairs.{bars_at}
use Rattle.interference.proofs.bars.count_bars.Given as goal

abbrev pub invariant-loop-bar : goal.invariant-loop-bar
invariant-loop-bar l = (v : ℕ) → v ≤ l.nodes → slice_index l.counts v ≡ bars_at (take l.bar-index l.bars) v
