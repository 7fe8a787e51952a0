use Rattle.std.proofs.Common.{[], ◌≡◌}
use Rattle.interference.specs.Net.{greatest_from, higher_count}
use Rattle.interference.specs.Rows.{net_from}
use Rattle.interference.proofs.forests.forest_count.Given as goal

abbrev pub invariant-loop-i : goal.invariant-loop-i
invariant-loop-i l = l.most ≡ greatest_from (higher_count (net_from l.ids l.starts l.ports [] [] 0)) 1 l.i
