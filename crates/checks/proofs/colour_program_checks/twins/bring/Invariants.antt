use Rattle.std.proofs.Common.{◌≡◌}
use Rattle.colour_rules.specs.Node.{ports}
use Rattle.checks.proofs.colour_program_checks.twins.bring.Given as goal

abbrev pub invariant-loop-earlier : goal.invariant-loop-earlier
invariant-loop-earlier l = ports l.node ≡ 1
