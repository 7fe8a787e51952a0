use Rattle.std.proofs.Common.{◌≡◌}
use Rattle.checks.proofs.node_api_checks.reads.Given as goal

abbrev pub invariant-loop-port : goal.invariant-loop-port
invariant-loop-port l = l.inbox.slots ≡ l.fn.inbox.slots
