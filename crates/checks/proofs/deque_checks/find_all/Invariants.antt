use Rattle.std.proofs.Common.{◌≡◌, map}
use Rattle.crossbeam_deque.specs.Handles.{stealer_deque}
use Rattle.pool.specs.Passes.{deques_of}
use Rattle.checks.proofs.deque_checks.find_all.Given as goal

abbrev pub invariant-loop : goal.invariant-loop
invariant-loop l = deques_of l.state.passes.items ≡ map stealer_deque l.stealers
