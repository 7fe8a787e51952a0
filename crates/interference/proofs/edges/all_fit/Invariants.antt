use Rattle.std.proofs.Common.{All, Some, take}
use Rattle.graph_limits.specs.Pairs.{FitsIn}
use Rattle.interference.proofs.edges.all_fit.Given as goal

abbrev pub invariant-loop-edge : goal.invariant-loop-edge
invariant-loop-edge l = All (FitsIn (Some l.nodes)) (take l.edge-index l.edges)
