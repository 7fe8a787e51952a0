use Rattle.std.proofs.Common.{◌≡◌, ◌+◌, ℕ, map}
use Rattle.crossbeam_deque.specs.Handles.{worker_view}
use Rattle.deque_rule.specs.Ledgers.{all_shares, weigh}
use Rattle.pool.proofs.gathering.drain.Given as goal

abbrev pub invariant-loop : goal.invariant-loop
invariant-loop g l = record {
  shares : (worker_view l.own).shares ≡ all_shares;
  pushed : (worker_view l.own).pushed ≡ (worker_view l.fn.own).pushed;
  out : (h : ℕ → ℕ) → weigh h (worker_view l.fn.own).taken + weigh h (map (λ b. g.T.Task.number_of b.value) l.tasks.items)
      ≡ weigh h (worker_view l.own).taken + weigh h (map (λ b. g.T.Task.number_of b.value) l.fn.tasks.items);
}
