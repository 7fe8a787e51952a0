use Rattle.std.proofs.Common.{◌≡◌, ◌≤◌, ◌+◌, [], length, map, vec_len, vec_capacity}
use Rattle.std.specs.Prelude.{All}
use Rattle.crossbeam_deque.specs.Handles.{view, worker_deque}
use Rattle.deque_rule.specs.Ledgers.{AreOut}
use Rattle.pool.specs.Passes.{deques_of}
use Rattle.pool.proofs.worker_states.make_worker_states.Given as goal

abbrev pub invariant-loop-own : goal.invariant-loop-own
invariant-loop-own g l = record {
  owns : map (λ d. worker_deque d.own) l.all.items ≡ map worker_deque l.yielded;
  passes : All (λ d. deques_of d.passes.items ≡ map worker_deque l.fn.owns.items) l.all.items;
  places : All (λ d. l.tasks ≤ vec_capacity d.finished) l.all.items;
  room : vec_len l.fn.owns ≤ vec_capacity l.all;
  rows : vec_len l.rows + length l.yielded ≡ vec_len l.fn.owns;
  theirs : All (λ row. deques_of row.items ≡ map worker_deque l.fn.owns.items) l.rows.items;
  fresh : All (λ row. AreOut (map (λ g'. view g'.pass) row.items) []) l.rows.items;
}
