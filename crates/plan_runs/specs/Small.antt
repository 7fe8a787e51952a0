-- A small run that meets all premises: two vertices with the identifiers 1 and 2, the edge between them, and the
-- program that spreads the greatest identifier, with last pulse 1.
use Rattle.std.specs.Prelude.{◌≡◌, IfOk, List, [], ◌∷◌, ◌++◌, map}
use Rattle.interference.specs.Net.{Net}
use Rattle.event_rule.specs.declared.event.Event.{Event}
use Rattle.event_rule.specs.declared.event.Event.TheVariants.{Pulse, Put, Take}
use Rattle.event_rule.specs.Step.{run}
use Rattle.sync_rounds.specs.Spread.{spread}
use Rattle.event_rule.specs.Endings.{IsWholeState}

abbrev pub edge : Net
edge = record { ids = 1 ∷ 2 ∷ []; ports = (2 ∷ []) ∷ (1 ∷ []) ∷ []; bars = [] ∷ [] ∷ []; again = 0 }

-- each node puts a wire, and takes one
abbrev pub exchange : List Event
exchange = Put 1 0 ∷ Put 2 0 ∷ Take 1 0 ∷ Take 2 0 ∷ []

-- payloads, acknowledgements and safes of pulse 0; then pulse 1 of both, and the closing marks
abbrev pub small_run : List Event
small_run = exchange ++ exchange ++ exchange ++ (Pulse 1 ∷ Pulse 2 ∷ exchange)

-- it is accepted, and at its end both nodes are at the last pulse and know 2
abbrev pub EndsWithTheGreatest : Type 0
EndsWithTheGreatest = IfOk (run (spread 1) edge small_run) (λ state.
    (map (λ node. node.view.pulse) state.nodes ≡ 1 ∷ 1 ∷ []) × (map (λ node. node.state.best) state.nodes ≡ 2 ∷ 2 ∷ []))

-- and both are drained, and no link holds a wire
abbrev pub EndsWhole : Type 0
EndsWhole = IfOk (run (spread 1) edge small_run) (λ state. IsWholeState (spread 1) edge state)
