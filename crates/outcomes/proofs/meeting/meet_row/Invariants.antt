use Rattle.std.proofs.Common.{◌≤◌, ℕ, length, map, vec_len, vec_capacity}
use Rattle.std.specs.Prelude.{All}
use Rattle.link_queue.specs.Ends.{held_stamped, put_stamped, taken_stamped}
use Rattle.wired_nodes.specs.Links.{HoldAtMost}
use Rattle.outcomes.specs.Meets.{AreMet}
use Rattle.outcomes.proofs.meeting.meet_row.Given as goal

abbrev pub invariant-loop-put : goal.invariant-loop-put
invariant-loop-put g l = record {
  places : vec_len l.fn.row ≤ vec_capacity l.mets;
  met : AreMet l.mets.items (map (λ x. put_stamped x.0.end) l.yielded) (map (λ x. taken_stamped x.1.end) l.yielded);
  room : (capacity : ℕ) → HoldAtMost l.links capacity → All (λ met. length (held_stamped met) ≤ capacity) l.mets.items;
}
