use Rattle.std.proofs.Common.{◌≡◌, ◌+◌, ℕ, map}
use Rattle.crossbeam_deque.specs.Handles.{worker_view}
use Rattle.deque_rule.specs.Ledgers.{pushed_by, taken_by, weigh}
use Rattle.pool.proofs.gathering.drain_all.Given as goal

abbrev pub invariant-loop-own : goal.invariant-loop-own
invariant-loop-own g l = record {
  out : (h : ℕ → ℕ) → taken_by h (map worker_view l.yielded) + weigh h (map (λ b. g.T.Task.number_of b.value) l.all.items)
      ≡ pushed_by h (map worker_view l.yielded) + weigh h (map (λ b. g.T.Task.number_of b.value) l.fn.tasks.items);
}
