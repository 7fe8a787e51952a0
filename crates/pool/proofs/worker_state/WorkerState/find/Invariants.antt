use Rattle.std.proofs.Common.{◌≡◌, map}
use Rattle.crossbeam_deque.specs.Handles.{stealer_deque, worker_deque}
use Rattle.pool.specs.Passes.{deques_of}
use Rattle.pool.proofs.worker_state.WorkerState.find.Given as goal

abbrev pub invariant-loop-attempt : goal.invariant-loop-attempt
invariant-loop-attempt g l = record {
  own : worker_deque l.self.own ≡ worker_deque l.fn.self.own;
  deques : deques_of l.self.passes.items ≡ map stealer_deque l.stealers;
}
