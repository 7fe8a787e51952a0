-- The value of what a run leaves.
use Rattle.outcomes.specs.declared.taking_apart.Actor.{Actor}
use Rattle.outcomes.specs.Outcome.{Gathered}

-- a node after the run
abbrev pub gathered_of : {P T : Type 0} → Actor P T → Gathered P T
gathered_of actor = record {
  vertex = actor.left.value.vertex;
  alpha = actor.left.value.alpha;
  entries = actor.left.value.entries.items;
}
