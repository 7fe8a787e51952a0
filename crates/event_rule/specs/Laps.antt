-- Turns that leave nothing for later, and how many laps of them a run takes.
use Rattle.std.specs.Prelude.{◌≡◌, ◌⊎◌, ℕ, ◌+◌, ◌*◌, ◌<◌, ◌≤◌, false, List, [], ◌∷◌, All, Contains, Ok, length}
use Rattle.interference.specs.Net.{Net, IsVertex, degree_of, vertices}
use Rattle.node_api.specs.Program.{Program, last_pulse_on}
use Rattle.wires.specs.Streams.{Begins}
use Rattle.alpha_core.specs.View.{can_pulse, expects, port_at}
use Rattle.event_rule.specs.declared.event.Event.{Event}
use Rattle.event_rule.specs.State.{State, start, node_of, link_to, sent_of}
use Rattle.event_rule.specs.Step.{run}
use Rattle.event_rule.specs.Events.{IsRunFrom}
use Rattle.event_rule.specs.Commute.{vertex_of}
use Rattle.event_rule.specs.Progress.{IsEnd}

-- v is at a greater pulse than it was
abbrev pub HasPulsed : {S M E : Type 0} → Program S M E → Net → ℕ → State S M → State S M → Type 0
HasPulsed program net v state next =
    (node_of program net state v).view.pulse < (node_of program net next v).view.pulse

-- A thorough turn of v: events of v that leave no wire in an out-list, and after which v has made a pulse or can't make
-- its next one. From each link v took all that was there as the turn began, or as much as it expects at its pulse, or
-- it has made a pulse.
pub record IsThoroughTurn {S M E : Type 0} (program : Program S M E) (net : Net) (v : ℕ) (state next : State S M)
    : Type 0 where
  pub events : List Event
  pub own : All (λ event. vertex_of event ≡ v) events
  pub leads : IsRunFrom program net state events next
  pub taken : (i : ℕ) → i < degree_of net v
      → HasPulsed program net v state next
      ⊎ ((expects (port_at (node_of program net next v).view i) ≡ false)
      ⊎ Begins (sent_of (link_to net state.links v i)) (link_to net next.links v i).taken)
  pub put : (i : ℕ) → i < degree_of net v → (port_at (node_of program net next v).view i).out ≡ []
  pub pulsed : HasPulsed program net v state next
      ⊎ (can_pulse (last_pulse_on program net) (node_of program net next v).view ≡ false)

-- thorough turns of these vertices, one after the other
abbrev pub AreThoroughTurns : {S M E : Type 0} → Program S M E → Net → State S M → List ℕ → State S M → Type 0
AreThoroughTurns program net state [] last = last ≡ state
AreThoroughTurns {S} {M} program net state (v ∷ vs) last =
    (next : State S M) × IsThoroughTurn program net v state next × AreThoroughTurns program net next vs last

-- every vertex has a turn in the order
abbrev pub HasAll : Net → List ℕ → Type 0
HasAll net order = (v : ℕ) → IsVertex net v → Contains order v

-- Every vertex has a turn, and nobody else. The vertices by their numbers are such an order.
abbrev pub OrdersExist : Net → Type 0
OrdersExist net = HasAll net (vertices net) × All (λ v. IsVertex net v) (vertices net)

-- Laps, one after the other, each of thorough turns in an order of its own, in which every vertex has one.
abbrev pub AreThoroughLaps : {S M E : Type 0} → Program S M E → Net → State S M → List (List ℕ) → State S M → Type 0
AreThoroughLaps program net state [] last = last ≡ state
AreThoroughLaps {S} {M} program net state (order ∷ orders) last =
    HasAll net order
    × ((next : State S M) × AreThoroughTurns program net state order next
    × AreThoroughLaps program net next orders last)

-- Whatever the orders are: after 3·R + 2 laps, where R is the last pulse, the run has come to its end.
abbrev pub ThoroughLapsEnd : {S M E : Type 0} → Program S M E → Net → Type 0
ThoroughLapsEnd {S} {M} program net =
    (orders : List (List ℕ)) (last : State S M) → AreThoroughLaps program net (start program net) orders last
    → 3 * last_pulse_on program net + 2 ≤ length orders
    → (events : List Event) × (run program net events ≡ Ok last) × IsEnd program net events last

-- In every state that is reached each node has a thorough turn.
abbrev pub ThoroughTurnsExist : {S M E : Type 0} → Program S M E → Net → Type 0
ThoroughTurnsExist {S} {M} program net =
    (v : ℕ) → IsVertex net v → (events : List Event) (state : State S M) → run program net events ≡ Ok state
    → (next : State S M) × IsThoroughTurn program net v state next

-- From the start there are such laps for all lists of orders of vertices in each of which every vertex has a turn.
abbrev pub ThoroughLapsExist : {S M E : Type 0} → Program S M E → Net → Type 0
ThoroughLapsExist {S} {M} program net =
    (orders : List (List ℕ)) → All (λ order. HasAll net order × All (λ v. IsVertex net v) order) orders
    → (last : State S M) × AreThoroughLaps program net (start program net) orders last
