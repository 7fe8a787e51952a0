use Rattle.std.proofs.Common.{◌≡◌, ◌≤◌, length, map, vec_len, vec_capacity}
use Rattle.pool.proofs.threads.start_all.Given as goal

abbrev pub invariant-loop-state : goal.invariant-loop-state
invariant-loop-state g l = record {
  worker : l.worker ≡ length l.yielded;
  room : vec_len l.fn.states ≤ vec_capacity l.children;
  states : map (λ h. h.promise.0.value) l.children.items ≡ l.yielded;
}
