use Rattle.std.proofs.Common.{◌≡◌, ◌+◌, ◌<◌, ℕ, map, length}
use Rattle.std.specs.Prelude.{All}
use Rattle.crossbeam_deque.specs.Handles.{view, worker_deque, worker_view}
use Rattle.deque_rule.specs.Ledgers.{in_rows, pushed_by, shares_of, taken_by}
use Rattle.pool.proofs.gathering.absorb_rows.Given as goal

abbrev pub invariant-loop-row : goal.invariant-loop-row
invariant-loop-row g l = record {
  deques : map worker_deque l.owns.items ≡ map worker_deque l.fn.owns.items;
  some : All (λ o. 0 < shares_of (worker_view o)) l.owns.items;
  shares : (p : ℕ) → All (λ o. shares_of (worker_view o) ≡ p) l.fn.owns.items → All (λ o. shares_of (worker_view o) ≡ p + length l.yielded) l.owns.items;
  pushed : (h : ℕ → ℕ) → pushed_by h (map worker_view l.owns.items)
      ≡ pushed_by h (map worker_view l.fn.owns.items) + in_rows (pushed_by h) (map (λ row. map (λ g'. view g'.pass) row.items) l.yielded);
  taken : (h : ℕ → ℕ) → taken_by h (map worker_view l.owns.items)
      ≡ taken_by h (map worker_view l.fn.owns.items) + in_rows (taken_by h) (map (λ row. map (λ g'. view g'.pass) row.items) l.yielded);
}
