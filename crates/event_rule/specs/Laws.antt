-- The laws of every list of events, on a network.
use Rattle.std.specs.Prelude.{◌≡◌, List, Ok}
use Rattle.interference.specs.Net.{Net}
use Rattle.node_api.specs.Program.{Program}
use Rattle.event_rule.specs.declared.event.Event.{Event}
use Rattle.event_rule.specs.State.{State}
use Rattle.event_rule.specs.Step.{run}
use Rattle.event_rule.specs.Events.{RunsExactly, StepsExactly}
use Rattle.event_rule.specs.Simulation.{IsReachable, IsSimulation}

-- whatever events come, in the state that they reach the nodes simulate the synchronous run
abbrev pub RunsSimulate : {S M E : Type 0} → Program S M E → Net → Type 0
RunsSimulate {S} {M} program net =
    (events : List Event) (state : State S M) → run program net events ≡ Ok state → IsSimulation program net state

-- every list of events is accepted or refused exactly
abbrev pub RunsAreExact : {S M E : Type 0} → Program S M E → Net → Type 0
RunsAreExact program net = (events : List Event) → RunsExactly program net events

-- in every state that is reached, each event is made or refused exactly
abbrev pub StepsAreExact : {S M E : Type 0} → Program S M E → Net → Type 0
StepsAreExact {S} {M} program net =
    (state : State S M) → IsReachable program net state → (event : Event) → StepsExactly program net state event
