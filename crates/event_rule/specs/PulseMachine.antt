-- The pulse machine, which has no links and no messages: its states are the pulses of all nodes, and its one step is
-- that a node makes its next pulse, which it may if it isn't ahead of a neighbour. A run simulates it: a pulse is such
-- a step, and a put or a take leaves the pulses as they are.
use Rattle.std.specs.Prelude.{◌≡◌, ℕ, suc, ◌+◌, ◌<◌, ◌≤◌}
use Rattle.interference.specs.Net.{Net, IsVertex, degree_of, neighbour_of}
use Rattle.node_api.specs.Program.{Program, last_pulse_on}
use Rattle.node_api.specs.Run.{inbox_at, state_at}
use Rattle.alpha_core.specs.View.{inbox_of}
use Rattle.event_rule.specs.declared.event.Event.{Event}
use Rattle.event_rule.specs.declared.event.Event.TheVariants.{Pulse, Put, Take}
use Rattle.event_rule.specs.State.{State, start, node_of}
use Rattle.event_rule.specs.Simulation.{IsReachable}
use Rattle.event_rule.specs.Events.{Steps}

-- A step of the pulse machine: v goes to its next pulse, if it is below the last one and not ahead of a neighbour.
pub record Advances (net : Net) (last v : ℕ) (old new : ℕ → ℕ) : Type 0 where
  pub vertex : IsVertex net v
  pub below : old v < last
  pub behind : (i : ℕ) → i < degree_of net v → old v ≤ old (neighbour_of net v i)
  pub moved : new v ≡ suc (old v)
  pub others : (u : ℕ) → IsVertex net u → (u ≡ v → ⊥) → new u ≡ old u

-- A state of the run is at a state of the pulse machine: each node is at its pulse, in the state of the synchronous run
-- at that pulse, and no node is more than one pulse ahead of a neighbour.
pub record IsAt {S M E : Type 0} (program : Program S M E) (net : Net) (state : State S M) (pulses : ℕ → ℕ)
    : Type 0 where
  pub pulse_is : (v : ℕ) → IsVertex net v → (node_of program net state v).view.pulse ≡ pulses v
  pub states : (v : ℕ) → IsVertex net v → (node_of program net state v).state ≡ state_at program net (pulses v) v
  pub apart : (v i : ℕ) → IsVertex net v → i < degree_of net v → pulses v ≤ pulses (neighbour_of net v i) + 1

-- what an event is in the pulse machine: a pulse is a step, which reads the synchronous inbox; a put or a take is none
abbrev pub Matches : {S M E : Type 0} → Program S M E → Net → State S M → Event → (ℕ → ℕ) → (ℕ → ℕ) → Type 0
Matches program net state (Pulse v) old new = Advances net (last_pulse_on program net) v old new
    × (inbox_of (node_of program net state v).view ≡ inbox_at program net (suc (old v)) v)
Matches program net state (Put v i) old new = new ≡ old
Matches program net state (Take v i) old new = new ≡ old

-- A forward simulation: the start is at pulse 0 everywhere; and from a state that is reached, wherever it is, each
-- event leads to a state that is where the event leads in the pulse machine.
pub record SimulatesPulseMachine {S M E : Type 0} (program : Program S M E) (net : Net) : Type 0 where
  pub starts : IsAt program net (start program net) (λ v. 0)
  pub steps : (state next : State S M) (event : Event) (old : ℕ → ℕ) → IsReachable program net state
      → Steps program net state event next → IsAt program net state old
      → (new : ℕ → ℕ) × Matches program net state event old new × IsAt program net next new
