use Rattle.std.proofs.Common.{◌≡◌, ◌+◌, ◌<◌, ◌≤◌, ℕ, map, vec_len}
use Rattle.std.specs.Prelude.{All}
use Rattle.crossbeam_deque.specs.Handles.{worker_capacity, worker_deque, worker_index, worker_view}
use Rattle.deque_rule.specs.Ledgers.{all_shares, pushed_by, shares_of, taken_by, weigh}
use Rattle.pool.specs.Dealt.{begun_by}
use Rattle.pool.proofs.Dealing.{given}
use Rattle.pool.proofs.deques.deal.Given as goal

abbrev pub invariant-each : goal.invariant-each
invariant-each g l = record {
  some : 0 < vec_len l.owns;
  deques : map worker_deque l.owns.items ≡ map worker_deque l.fn.owns.items;
  shares : All (λ o. shares_of (worker_view o) ≡ all_shares) l.owns.items;
  room : All (λ o. worker_index o + vec_len l.tasks ≤ worker_capacity o) l.owns.items;
  dealt : (h : ℕ → ℕ) → (taken_by h (map worker_view l.owns.items) ≡ 0)
      × (pushed_by h (map worker_view l.owns.items) + weigh h (map (λ b. g.T.Task.number_of b.value) l.tasks.items)
      ≡ weigh h (map (λ b. g.T.Task.number_of b.value) l.fn.tasks.items));
  whose : (k : ℕ) → k < vec_len l.fn.owns → given worker_view (λ b. g.T.Task.number_of b.value) (vec_len l.fn.owns) l.owns.items l.tasks.items k
      ≡ begun_by (vec_len l.fn.owns) k (map (λ b. g.T.Task.number_of b.value) l.fn.tasks.items);
}

abbrev pub decreases-each : goal.decreases-each
decreases-each g l = vec_len l.tasks
