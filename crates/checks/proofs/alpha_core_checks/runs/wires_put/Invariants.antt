use Rattle.std.proofs.Common.{◌≡◌, length}
use Rattle.checks.proofs.alpha_core_checks.runs.wires_put.Given as goal

abbrev pub invariant-loop-pulse : goal.invariant-loop-pulse
invariant-loop-pulse g l = length l.node.node.view.ports ≡ 1
