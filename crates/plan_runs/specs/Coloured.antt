-- Nodes of the colouring that have halted, and their colours.
use Rattle.std.specs.Prelude.{◌≡◌, ℕ, Bool, IsTrue, List, Ok}
use Rattle.interference.specs.Net.{Net, IsVertex}
use Rattle.node_api.specs.Program.{Program, last_pulse_on}
use Rattle.wires.specs.declared.wire.Wire.{Wire}
use Rattle.alpha_core.specs.View.{Node, is_halted}
use Rattle.alpha_laws.specs.Simulates.{Simulates}
use Rattle.outcomes.specs.Outcome.{Outcome, IsOutcome, node_in}
use Rattle.colour_rules.specs.declared.payload.Payload.{Payload}
use Rattle.colour_rules.specs.Node as colour
use Rattle.colour_rules.specs.Program.{colouring}
use Rattle.colour_laws.specs.Colours.{AreColours}
use Rattle.event_rule.specs.declared.event.Event.{Event}
use Rattle.event_rule.specs.State.{State, node_of}
use Rattle.event_rule.specs.Step.{run}
use Rattle.event_rule.specs.Endings.{IsTerminal}

-- every node is at the last pulse
abbrev pub AllHalted : {S M E : Type 0} → Program S M E → Net → (ℕ → Node S M) → Type 0
AllHalted program net nodes = (v : ℕ) → IsVertex net v → IsTrue (is_halted (last_pulse_on program net) (nodes v).view)

-- the nodes have the colours of the network
abbrev pub AreColoured : Net → (ℕ → Node colour.Node Payload) → Type 0
AreColoured net nodes = AreColours net (λ v. (nodes v).state.merged)

-- nodes that simulate the synchronous run, and have halted, have these colours, whatever ran them
abbrev pub HaltedAreColoured : Net → Type 0
HaltedAreColoured net =
    (nodes : ℕ → Node colour.Node Payload) (sent taken : ℕ → ℕ → List (Wire Payload))
    → Simulates colouring net nodes sent taken → AllHalted colouring net nodes → AreColoured net nodes

-- and so do those of every list of events
abbrev pub HaltedRunsAreColoured : Net → Type 0
HaltedRunsAreColoured net =
    (events : List Event) (state : State colour.Node Payload)
    → run colouring net events ≡ Ok state → AllHalted colouring net (node_of colouring net state)
    → AreColoured net (node_of colouring net state)

-- and so do those that a run of workers leaves
abbrev pub HaltedOutcomesAreColoured : Net → Type 0
HaltedOutcomesAreColoured net =
    (capacity : ℕ) (transcript : Bool) (outcome : Outcome colour.Node Payload)
    → IsOutcome colouring net capacity transcript outcome → AllHalted colouring net (node_in colouring net outcome)
    → AreColoured net (node_in colouring net outcome)

-- After a list of events after which no event is possible, the nodes have these colours.
abbrev pub MaximalRunsAreColoured : Net → Type 0
MaximalRunsAreColoured net =
    (events : List Event) (state : State colour.Node Payload)
    → run colouring net events ≡ Ok state → IsTerminal colouring net state
    → AreColoured net (node_of colouring net state)
