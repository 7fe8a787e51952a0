use Rattle.std.proofs.Common.{◌≡◌, ◌-◌, ◌≤◌, ◌++◌, ℕ, map, vec_len}
use Rattle.std.specs.Prelude.{All, reverse}
use Rattle.std.specs.List.{range_with_len}
use Rattle.interference.specs.Net.{vertices}
use Rattle.alpha_core.specs.Program.{start_node}
use Rattle.port_rows.specs.Rows.{row_at, rows_of}
use Rattle.node_runs.specs.News.{AreNewOf}
use Rattle.node_runs.proofs.starting.start_nodes.Given as goal

abbrev pub invariant-loop-k : goal.invariant-loop-k
invariant-loop-k g l = record {
  left : vec_len l.ends ≡ l.count - l.k;
  ends : (u : ℕ) → 1 ≤ u → u ≤ l.count - l.k
      → AreNewOf g.J.Wiring.net g.J.Wiring.tables g.J.Wiring.links u (row_at (rows_of l.ends.items) u);
  started : map (λ b. b.value.vertex) l.nodes.items ++ reverse (range_with_len 1 (l.count - l.k)) ≡ reverse (vertices g.J.Wiring.net);
  first : All (λ b. b.value.alpha.node ≡ start_node g.P.NodeProgram.program l.net b.value.vertex) l.nodes.items;
}
