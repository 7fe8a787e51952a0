use Rattle.std.proofs.Common.{◌≡◌, map, take}
use Rattle.outcomes.specs.Gathers.{gathered_of}
use Rattle.plan_runs.specs.Colours.{merged_of}
use Rattle.plan_runs.proofs.plan_text.colours_of.Given as goal

abbrev pub invariant-loop-actor : goal.invariant-loop-actor
invariant-loop-actor l = l.all.items ≡ map (λ actor. merged_of (gathered_of actor)) (take l.actor-index l.actors)
