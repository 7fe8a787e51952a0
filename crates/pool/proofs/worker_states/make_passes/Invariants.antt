use Rattle.std.proofs.Common.{◌≡◌, ◌≤◌, ◌-◌, [], map, vec_len, vec_capacity}
use Rattle.std.specs.Prelude.{All}
use Rattle.crossbeam_deque.specs.Handles.{view, worker_deque, worker_view}
use Rattle.deque_rule.specs.Ledgers.{AreOut, all_shares, ledger}
use Rattle.pool.specs.Passes.{deques_of}
use Rattle.pool.proofs.worker_states.make_passes.Given as goal

abbrev pub invariant-loop : goal.invariant-loop
invariant-loop g l = record {
  owns : map worker_deque l.owns.items ≡ map worker_deque l.fn.owns.items;
  left : All (λ o. worker_view o ≡ ledger (all_shares - 1 - l.counter) [] []) l.owns.items;
  room : vec_len l.fn.owns ≤ vec_capacity l.rows;
  rows : vec_len l.rows ≡ l.counter;
  passes : All (λ row. deques_of row.items ≡ map worker_deque l.fn.owns.items) l.rows.items;
  fresh : All (λ row. AreOut (map (λ g'. view g'.pass) row.items) []) l.rows.items;
}
