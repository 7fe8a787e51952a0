-- Which fault a run has if turns of its nodes ended early.
use Rattle.std.specs.Prelude.{List, [], ◌∷◌, Option, Some, None, Result, Ok, Err}
use Rattle.wired_nodes.specs.declared.refused.TurnRefused.{TurnRefused}
use Rattle.wired_nodes.specs.declared.refused.TurnRefused.TheVariants as turn
use Rattle.pool.specs.declared.faults.ThreadsFault.{ThreadsFault}
use Rattle.pool.specs.declared.faults.ThreadsFault.TheVariants as threads

-- What a run reports of the refusals that its nodes remember: memory, if it was refused to one. That no stamp was is
-- known once the nodes are gathered.
abbrev pub fault_of_refusals : {A : Type 0} → A → List (Option TurnRefused) → Result A ThreadsFault
fault_of_refusals done [] = Ok done
fault_of_refusals done (None ∷ refusals) = fault_of_refusals done refusals
fault_of_refusals done (Some turn.Memory ∷ refusals) = Err threads.Memory
fault_of_refusals done (Some turn.StampFull ∷ refusals) = fault_of_refusals done refusals
