use Rattle.std.proofs.Common.{◌≡◌, map}
use Rattle.crossbeam_deque.specs.Handles.{stealer_deque, worker_deque}
use Rattle.pool.specs.Passes.{deques_of}
use Rattle.pool.proofs.looks.work.Given as goal

abbrev pub invariant-loop : goal.invariant-loop
invariant-loop g l = record {
  own : worker_deque l.state.own ≡ worker_deque l.fn.state.own;
  deques : deques_of l.state.passes.items ≡ map stealer_deque l.stealers;
}
