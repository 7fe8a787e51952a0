use Rattle.std.proofs.Common.{◌≡◌, ◌≤◌, ◌+◌, [], map, vec_len, vec_capacity}
use Rattle.std.specs.Prelude.{All}
use Rattle.crossbeam_deque.specs.Handles.{stealer_deque, worker_capacity, worker_deque, worker_index, worker_view}
use Rattle.deque_rule.specs.Ledgers.{all_shares, ledger}
use Rattle.pool.proofs.deques.make_deques.Given as goal

abbrev pub invariant-loop : goal.invariant-loop
invariant-loop g l = record {
  deques : map worker_deque l.owns.items ≡ map stealer_deque l.stealers.items;
  places : (l.fn.workers ≤ vec_capacity l.owns) × (l.fn.workers ≤ vec_capacity l.stealers);
  count : vec_len l.owns ≡ l.counter;
  new : All (λ o. worker_view o ≡ ledger all_shares [] []) l.owns.items;
  room : All (λ o. worker_index o + l.fn.tasks ≤ worker_capacity o) l.owns.items;
}
