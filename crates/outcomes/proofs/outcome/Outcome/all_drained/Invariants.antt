use Rattle.std.proofs.Common.{◌≡◌, drop, map}
use Rattle.outcomes.specs.Outcome.{all_drained}
use Rattle.outcomes.specs.Gathers.{gathered_of}
use Rattle.outcomes.proofs.outcome.Outcome.all_drained.Given as goal

abbrev pub invariant-loop-actor : goal.invariant-loop-actor
invariant-loop-actor g l = all_drained (map gathered_of l.actor-items) ≡ all_drained (map gathered_of (drop l.actor-index l.actor-items))
