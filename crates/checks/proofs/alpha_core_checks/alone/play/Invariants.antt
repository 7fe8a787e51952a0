use Rattle.std.proofs.Common.{◌≡◌, length}
use Rattle.checks.proofs.alpha_core_checks.alone.play.Given as goal

abbrev pub invariant-loop-act : goal.invariant-loop-act
invariant-loop-act g l = length l.node.node.view.ports ≡ 1
