-- What holds of every state that a list of events reaches.
use Rattle.std.specs.Prelude.{◌≡◌, List, All, Ok}
use Rattle.interference.specs.Net.{Net, IsNetwork}
use Rattle.node_api.specs.Program.{Program, last_pulse_on}
use Rattle.alpha_core.specs.View.{Alpha}
use Rattle.alpha_laws.specs.Simulates.{Simulates}
use Rattle.event_rule.specs.declared.event.Event.{Event}
use Rattle.event_rule.specs.State.{Link, State, node_of, link_at, link_to, sent_of, state_in}
use Rattle.event_rule.specs.Step.{run}

-- the nodes of a state, with the lists put on their links and taken from them, simulate the synchronous run
abbrev pub IsSimulation : {S M E : Type 0} → Program S M E → Net → State S M → Type 0
IsSimulation program net state =
    Simulates program net (node_of program net state)
    (λ v i. sent_of (link_at state.links v i)) (λ v i. (link_to net state.links v i).taken)

-- a state that some list of events reaches
abbrev pub IsReachable : {S M E : Type 0} → Program S M E → Net → State S M → Type 0
IsReachable program net state = (events : List Event) × (run program net events ≡ Ok state)

-- what a `NetState` keeps: some list of events reaches its state, and each of its nodes knows the last pulse
pub record IsNetState {S M E : Type 0} (program : Program S M E) (net : Net) (nodes : List (Alpha S M))
    (links : List (List (Link M))) : Type 0 where
  pub network : IsNetwork net
  pub reached : IsReachable program net (state_in nodes links)
  pub lasts : All (λ (n : Alpha S M). n.last ≡ last_pulse_on program net) nodes
