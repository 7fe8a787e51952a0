use Rattle.std.proofs.Common.{◌≡◌, ◌≤◌, [], vec_capacity, vec_len}
use Rattle.std.specs.Prelude.{All}
use Rattle.interference.specs.Net.{count_of}
use Rattle.node_runs.proofs.making.none_made.Given as goal

abbrev pub invariant-loop-v : goal.invariant-loop-v
invariant-loop-v g l = record {
  room : count_of l.net ≤ vec_capacity l.ends;
  count : vec_len l.ends ≡ l.v;
  empty : All (λ row. row.items ≡ []) l.ends.items;
}
