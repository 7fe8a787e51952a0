use Rattle.std.proofs.Common.{◌≡◌, ◌≤◌, ◌++◌, true, vec_len, vec_capacity}
use Rattle.crossbeam_queue.specs.Passes.{view, IsPassOf}
use Rattle.link_queue.specs.Rule.{end_view}
use Rattle.link_queue.proofs.link.Link.take_all.Given as goal

abbrev pub invariant-loop : goal.invariant-loop
invariant-loop g l = record {
  of : IsPassOf l.self.queue l.pass;
  seen : view l.pass ≡ end_view (view l.fn.pass).name true true (view l.fn.pass).put ((view l.fn.pass).taken ++ l.held.items);
  count : vec_len l.held ≡ l.counter;
  room : l.n ≤ vec_capacity l.held;
}
