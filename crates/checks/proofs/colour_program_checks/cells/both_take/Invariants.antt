use Rattle.std.proofs.Common.{◌≡◌}
use Rattle.colour_rules.specs.Node.{ports}
use Rattle.checks.proofs.colour_program_checks.cells.both_take.Given as goal

abbrev pub invariant-loop-payload : goal.invariant-loop-payload
invariant-loop-payload l = (ports l.node ≡ 1) × (ports l.twin ≡ 1)
