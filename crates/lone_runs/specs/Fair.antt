-- Orders in which each node's turn comes again and again.
use Rattle.std.specs.Prelude.{◌≡◌, ◌≤◌, ℕ, List, [], ◌∷◌, All, Ok, length}
use Rattle.interference.specs.Net.{Net, IsVertex}
use Rattle.node_api.specs.Program.{Program}
use Rattle.alpha_laws.specs.Counts.{events_of_run}
use Rattle.event_rule.specs.declared.event.Event.{Event}
use Rattle.event_rule.specs.State.{State, start}
use Rattle.event_rule.specs.Step.{run}
use Rattle.event_rule.specs.Events.{IsRunFrom, Possible}
use Rattle.event_rule.specs.Commute.{vertex_of}
use Rattle.event_rule.specs.Laps.{HasAll}
use Rattle.event_rule.specs.Progress.{IsEnd}

-- A turn of v makes events of v, whichever and however many; it makes none only if none is possible.
pub record IsTurn {S M E : Type 0} (program : Program S M E) (net : Net) (v : ℕ) (state next : State S M) : Type 0 where
  pub events : List Event
  pub own : All (λ event. vertex_of event ≡ v) events
  pub leads : IsRunFrom program net state events next
  pub moves : events ≡ [] → (event : Event) → vertex_of event ≡ v → Possible program net state event → ⊥

-- turns of these vertices, one after the other
abbrev pub AreTurns : {S M E : Type 0} → Program S M E → Net → State S M → List ℕ → State S M → Type 0
AreTurns program net state [] last = last ≡ state
AreTurns {S} {M} program net state (v ∷ vs) last =
    (next : State S M) × IsTurn program net v state next × AreTurns program net next vs last

-- Laps, one after the other, each of turns in an order of its own, in which every vertex has one at least.
abbrev pub AreLaps : {S M E : Type 0} → Program S M E → Net → State S M → List (List ℕ) → State S M → Type 0
AreLaps program net state [] last = last ≡ state
AreLaps {S} {M} program net state (order ∷ orders) last =
    HasAll net order
    × ((next : State S M) × AreTurns program net state order next × AreLaps program net next orders last)

-- Whatever the orders are: after as many laps as a whole run has events, the run has come to its end.
abbrev pub FairOrdersEnd : {S M E : Type 0} → Program S M E → Net → Type 0
FairOrdersEnd {S} {M} program net =
    (orders : List (List ℕ)) (last : State S M) → AreLaps program net (start program net) orders last
    → events_of_run program net ≤ length orders
    → (events : List Event) × (run program net events ≡ Ok last) × IsEnd program net events last

-- In every state that is reached each node has a fair turn.
abbrev pub FairTurnsExist : {S M E : Type 0} → Program S M E → Net → Type 0
FairTurnsExist {S} {M} program net =
    (v : ℕ) → IsVertex net v → (events : List Event) (state : State S M) → run program net events ≡ Ok state
    → (next : State S M) × IsTurn program net v state next

-- From the start there are fair laps for all lists of orders of vertices in each of which every vertex has a turn.
abbrev pub FairLapsExist : {S M E : Type 0} → Program S M E → Net → Type 0
FairLapsExist {S} {M} program net =
    (orders : List (List ℕ)) → All (λ order. HasAll net order × All (λ v. IsVertex net v) order) orders
    → (last : State S M) × AreLaps program net (start program net) orders last
