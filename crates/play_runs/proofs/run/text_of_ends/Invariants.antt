use Rattle.std.proofs.Common.{◌≡◌, flat_map, map, take}
use Rattle.outcomes.specs.Gathers.{gathered_of}
use Rattle.play_runs.specs.Ends.{gathered_end}
use Rattle.play_runs.proofs.run.text_of_ends.Given as goal

-- the lines of the nodes so far
abbrev pub invariant-loop-actor : goal.invariant-loop-actor
invariant-loop-actor g l = l.text.items ≡ flat_map (gathered_end g.P.ProgramText.texts l.net) (map gathered_of (take l.actor-index l.actors))
