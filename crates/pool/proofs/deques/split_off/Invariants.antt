use Rattle.std.proofs.Common.{◌≡◌, ◌≤◌, map, vec_len, vec_capacity}
use Rattle.crossbeam_deque.specs.Handles.{view, worker_deque, worker_view}
use Rattle.pool.specs.Passes.{deques_of}
use Rattle.pool.proofs.deques.split_off.Given as goal

abbrev pub invariant-loop-own : goal.invariant-loop-own
invariant-loop-own g l = record {
  room : (vec_len l.fn.owns ≤ vec_capacity l.lefts) × (vec_len l.fn.owns ≤ vec_capacity l.passes);
  owns : map worker_deque l.lefts.items ≡ map worker_deque l.yielded;
  left : map worker_view l.lefts.items ≡ map (λ o. g.M.Split.left (worker_view o)) l.yielded;
  passes : deques_of l.passes.items ≡ map worker_deque l.yielded;
  right : map (λ g'. view g'.pass) l.passes.items ≡ map (λ o. g.M.Split.right (worker_view o)) l.yielded;
}
