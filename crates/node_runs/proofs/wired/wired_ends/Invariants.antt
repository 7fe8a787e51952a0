use Rattle.std.proofs.Common.{◌≡◌, ◌≤◌, ℕ, [], length, map, vec_capacity, vec_len}
use Rattle.std.specs.Prelude.{All}
use Rattle.std.specs.List.{range_with_len}
use Rattle.interference.specs.Net.{back_port_of, neighbour_of}
use Rattle.link_queue.specs.Ends.{put_list, taken_list}
use Rattle.node_runs.proofs.wired.wired_ends.Given as goal

abbrev pub invariant-loop-ends : goal.invariant-loop-ends
invariant-loop-ends g l = record {
  port : l.port ≡ length l.yielded;
  many : (vec_len l.puts ≡ l.port) × (vec_len l.takes ≡ l.port);
  room : (vec_len l.fn.row ≤ vec_capacity l.puts) × (vec_len l.fn.row ≤ vec_capacity l.takes);
  outs : map {B = ℕ × ℕ} (λ e. (e.vertex, e.port)) l.puts.items ≡ map (λ i. (l.v, i)) (range_with_len 0 l.port);
  ins : map {B = ℕ × ℕ} (λ e. (e.vertex, e.port)) l.takes.items
      ≡ map (λ i. (neighbour_of g.J.Wiring.net l.v i, back_port_of g.J.Wiring.net l.v i)) (range_with_len 0 l.port);
  nothing_put : All (λ e. put_list e.end ≡ []) l.puts.items;
  nothing_taken : All (λ e. taken_list e.end ≡ []) l.takes.items;
}
