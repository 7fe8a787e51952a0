use Rattle.std.proofs.Common.{◌≡◌}
use Rattle.colour_rules.specs.Node.{ports}
use Rattle.checks.proofs.colour_program_checks.refusals.takes_turns.Given as goal

abbrev pub invariant-loop-turn : goal.invariant-loop-turn
invariant-loop-turn l = ports l.node ≡ 2
