-- Events of different nodes, in either order.
use Rattle.std.specs.Prelude.{◌≡◌, ℕ}
use Rattle.interference.specs.Net.{Net}
use Rattle.node_api.specs.Program.{Program}
use Rattle.event_rule.specs.declared.event.Event.{Event}
use Rattle.event_rule.specs.declared.event.Event.TheVariants.{Pulse, Put, Take}
use Rattle.event_rule.specs.State.{State}
use Rattle.event_rule.specs.Simulation.{IsReachable}
use Rattle.event_rule.specs.Events.{Steps}

-- whose event it is
abbrev pub vertex_of : Event → ℕ
vertex_of (Pulse v) = v
vertex_of (Put v i) = v
vertex_of (Take v i) = v

-- Of two events of different nodes that are possible in a state that is reached, each is possible after the other, and
-- both orders lead to the same state.
abbrev pub EventsCommute : {S M E : Type 0} → Program S M E → Net → Type 0
EventsCommute {S} {M} program net =
    (state one two : State S M) (event other : Event) → IsReachable program net state
    → (vertex_of event ≡ vertex_of other → ⊥)
    → Steps program net state event one → Steps program net state other two
    → (both : State S M) × Steps program net one other both × Steps program net two event both
