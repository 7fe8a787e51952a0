use Rattle.std.proofs.Common.{◌≡◌, ◌≤◌, ◌+◌, ℕ, map, vec_len, vec_capacity}
use Rattle.crossbeam_deque.specs.Handles.{view, worker_deque, worker_view}
use Rattle.deque_rule.specs.Ledgers.{in_rows, pushed_by, shares_of, taken_by, weigh}
use Rattle.pool.specs.Passes.{deques_of}
use Rattle.pool.proofs.gathering.split_states.Given as goal

abbrev pub invariant-loop-state : goal.invariant-loop-state
invariant-loop-state g l = record {
  room : (vec_len l.fn.done ≤ vec_capacity l.owns) × (vec_len l.fn.done ≤ vec_capacity l.rows);
  owns : map worker_deque l.owns.items ≡ map (λ d. worker_deque d.own) l.yielded;
  rows : map (λ row. deques_of row.items) l.rows.items ≡ map (λ d. deques_of d.passes.items) l.yielded;
  shares : map (λ o. shares_of (worker_view o)) l.owns.items ≡ map (λ d. shares_of (worker_view d.own)) l.yielded;
  out : (h : ℕ → ℕ) → taken_by h (map worker_view l.owns.items) + in_rows (taken_by h) (map (λ row. map (λ g'. view g'.pass) row.items) l.rows.items)
      ≡ pushed_by h (map worker_view l.owns.items) + in_rows (pushed_by h) (map (λ row. map (λ g'. view g'.pass) row.items) l.rows.items)
      + weigh h (map (λ b. g.T.Task.number_of b.value) l.tasks.items);
}
