use Rattle.std.proofs.Common.{◌≡◌, ℕ, ◌+◌, ◌<◌}
use Rattle.std.specs.declared.cmp.Ordering.TheVariants.{Less}
use Rattle.graph_limits.specs.Pairs.{pair_cmp}
use Rattle.interference.specs.Filling.{edge_at}
use Rattle.interference.proofs.edges.ascend.Given as goal

abbrev pub invariant-loop-i : goal.invariant-loop-i
invariant-loop-i l = (k : ℕ) → k + 1 < l.i → pair_cmp (edge_at l.edges k) (edge_at l.edges (k + 1)) ≡ Less
