use Rattle.std.proofs.Common.{◌≡◌}
use Rattle.colour_rules.specs.Node.{ports}
use Rattle.checks.proofs.colour_program_checks.refusals.show_the_same.Given as goal

abbrev pub invariant-loop-turn : goal.invariant-loop-turn
invariant-loop-turn l = (ports l.one ≡ 2) × (ports l.other ≡ 2)
