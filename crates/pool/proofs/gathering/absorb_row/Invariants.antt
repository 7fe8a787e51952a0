use Rattle.std.proofs.Common.{◌≡◌, ◌+◌, ◌<◌, ◌≤◌, ℕ, map, take, length, vec_len}
use Rattle.std.specs.Prelude.{All}
use Rattle.crossbeam_deque.specs.Handles.{view, worker_deque, worker_view}
use Rattle.deque_rule.specs.Ledgers.{pushed_by, shares_of, taken_by}
use Rattle.pool.specs.Passes.{deques_of}
use Rattle.pool.proofs.Absorbing.{IsUpTo}
use Rattle.pool.proofs.gathering.absorb_row.Given as goal

abbrev pub invariant-each : goal.invariant-each
invariant-each g l = record {
  deques : map worker_deque l.owns.items ≡ map worker_deque l.fn.owns.items;
  front : deques_of l.row.items ≡ take (length l.row.items) (map worker_deque l.fn.owns.items);
  few : length l.row.items ≤ length l.fn.owns.items;
  some : All (λ o. 0 < shares_of (worker_view o)) l.owns.items;
  shares : (p : ℕ) → All (λ o. shares_of (worker_view o) ≡ p) l.fn.owns.items → IsUpTo p (length l.row.items) (map worker_view l.owns.items);
  pushed : (h : ℕ → ℕ) → pushed_by h (map worker_view l.owns.items) + pushed_by h (map (λ g'. view g'.pass) l.row.items)
      ≡ pushed_by h (map worker_view l.fn.owns.items) + pushed_by h (map (λ g'. view g'.pass) l.fn.row.items);
  taken : (h : ℕ → ℕ) → taken_by h (map worker_view l.owns.items) + taken_by h (map (λ g'. view g'.pass) l.row.items)
      ≡ taken_by h (map worker_view l.fn.owns.items) + taken_by h (map (λ g'. view g'.pass) l.fn.row.items);
}

abbrev pub decreases-each : goal.decreases-each
decreases-each g l = vec_len l.row
