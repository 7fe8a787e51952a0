use Rattle.std.proofs.Common.{◌≤◌, ℕ, length, map, vec_len, vec_capacity}
use Rattle.std.specs.Prelude.{All}
use Rattle.link_queue.specs.Ends.{held_stamped, put_stamped, taken_stamped}
use Rattle.wired_nodes.specs.Links.{HoldAtMost}
use Rattle.outcomes.specs.Meets.{RowsAreMet}
use Rattle.outcomes.proofs.meeting.meet_each.Given as goal

abbrev pub invariant-loop-puts : goal.invariant-loop-puts
invariant-loop-puts g l = record {
  places : vec_len l.fn.rows ≤ vec_capacity l.all;
  met : RowsAreMet (map (λ mets. mets.items) l.all.items) (map (λ x. map (λ e. put_stamped e.end) x.0.items) l.yielded)
      (map (λ x. map (λ e. taken_stamped e.end) x.1.items) l.yielded);
  room : (capacity : ℕ) → HoldAtMost l.links capacity → All (λ mets. All (λ met. length (held_stamped met) ≤ capacity) mets.items) l.all.items;
}
