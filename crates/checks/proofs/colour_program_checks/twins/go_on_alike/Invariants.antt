use Rattle.std.proofs.Common.{◌≡◌}
use Rattle.colour_rules.specs.Node.{ports}
use Rattle.checks.proofs.colour_program_checks.twins.go_on_alike.Given as goal

abbrev pub invariant-loop-pulse : goal.invariant-loop-pulse
invariant-loop-pulse l = (ports l.one ≡ 1) × (ports l.other ≡ 1)
