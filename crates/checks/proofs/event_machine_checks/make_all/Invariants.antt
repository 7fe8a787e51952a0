use Rattle.std.proofs.Common.{◌≡◌}
use Rattle.interference.specs.Net.{count_of, degree_of}
use Rattle.checks.proofs.event_machine_checks.make_all.Given as goal

abbrev pub invariant-loop-event : goal.invariant-loop-event
invariant-loop-event l = (count_of l.state.net ≡ 2) × (degree_of l.state.net 1 ≡ 1) × (degree_of l.state.net 2 ≡ 1)
