use Rattle.std.proofs.Common.{◌≡◌, ◌≤◌, map, vec_len, vec_capacity}
use Rattle.entries.specs.Recorded.{entries_by}
use Rattle.port_rows.specs.Rows.{rows_of}
use Rattle.outcomes.proofs.taking_apart.split_ends.Given as goal

abbrev pub invariant-loop-node : goal.invariant-loop-node
invariant-loop-node g l = record {
  room : (vec_len l.fn.nodes ≤ vec_capacity l.all.actors) × (vec_len l.fn.nodes ≤ vec_capacity l.all.puts)
      × (vec_len l.fn.nodes ≤ vec_capacity l.all.takes);
  vertices : map (λ a. a.left.value.vertex) l.all.actors.items ≡ map (λ b. b.value.vertex) l.yielded;
  alphas : map (λ a. a.left.value.alpha) l.all.actors.items ≡ map (λ b. b.value.alpha) l.yielded;
  entries : map (λ a. a.left.value.entries.items) l.all.actors.items ≡ map (λ b. entries_by b.value.recorder) l.yielded;
  puts : rows_of l.all.puts.items ≡ map (λ b. b.value.puts.items) l.yielded;
  takes : rows_of l.all.takes.items ≡ map (λ b. b.value.takes.items) l.yielded;
}
