use Rattle.std.proofs.Common.{◌≡◌, replicate}
use Rattle.event_rule.specs.State.{no_link}
use Rattle.event_machine.proofs.links.row.Given as goal

abbrev pub invariant-loop : goal.invariant-loop
invariant-loop g l = l.row.items ≡ replicate l.counter no_link
