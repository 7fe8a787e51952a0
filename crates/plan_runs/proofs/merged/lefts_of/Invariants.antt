use Rattle.std.proofs.Common.{◌≡◌, map, take}
use Rattle.outcomes.specs.Gathers.{gathered_of}
use Rattle.plan_runs.proofs.merged.lefts_of.Given as goal

-- the entries of the nodes so far
abbrev pub invariant-loop-actor : goal.invariant-loop-actor
invariant-loop-actor g l = l.lefts.items ≡ map (λ node. node.entries) (map gathered_of (take l.actor-index l.actors))
