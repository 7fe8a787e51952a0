use Rattle.std.proofs.Common.{◌≡◌, length}
use Rattle.checks.proofs.alpha_core_checks.alone.put_all.Given as goal

abbrev pub invariant-loop : goal.invariant-loop
invariant-loop g l = length l.node.node.view.ports ≡ 1
