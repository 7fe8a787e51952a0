-- What nodes that simulate the synchronous run can still do, and what they are once nothing is left to be done.
use Rattle.std.specs.Prelude.{◌≡◌, ◌⊎◌, ◌↔◌, ℕ, ◌<◌, ◌≤◌, true, false, IsTrue, None, List, [], ◌++◌, length, replicate}
use Rattle.interference.specs.Net.{Net, IsVertex, degree_of, neighbour_of, back_port_of}
use Rattle.node_api.specs.Program.{Program, last_pulse_on}
use Rattle.node_api.specs.Run.{last_state}
use Rattle.wires.specs.declared.wire.Wire.{Wire}
use Rattle.alpha_core.specs.View.{Port, Node, port_at, can_take, can_pulse, is_drained}
use Rattle.alpha_laws.specs.Simulates.{Simulates, IsCompleteOn, taken_over}
use Rattle.alpha_laws.specs.Counts.{events_of_run, events_made}

-- what was put on each link is what was taken from it, followed by what it holds
abbrev pub Splits : {M : Type 0} → Net → (ℕ → ℕ → List (Wire M)) → (ℕ → ℕ → List (Wire M)) → (ℕ → ℕ → List (Wire M)) →
    Type 0
Splits net sent taken held =
    (v i : ℕ) → IsVertex net v → i < degree_of net v → taken_over net taken v i ++ held v i ≡ sent v i

-- A network is whole: every node is drained, and no link holds a wire.
pub record IsWhole {S M E : Type 0} (program : Program S M E) (net : Net) (nodes : ℕ → Node S M)
    (held : ℕ → ℕ → List (Wire M)) : Type 0 where
  pub drained : (v : ℕ) → IsVertex net v → IsTrue (is_drained (last_pulse_on program net) (nodes v).view)
  pub empty : (v i : ℕ) → IsVertex net v → i < degree_of net v → held v i ≡ []

-- v can take, and a link that comes to it holds a wire
abbrev pub CanTakeOne : {S M : Type 0} → Net → (ℕ → Node S M) → (ℕ → ℕ → List (Wire M)) → ℕ → Type 0
CanTakeOne net nodes held v =
    IsTrue (can_take (nodes v).view)
    × ((i : ℕ) × (i < degree_of net v) × (0 < length (held (neighbour_of net v i) (back_port_of net v i))))

-- an out-list of v has a wire, and its link holds fewer wires than its capacity
abbrev pub CanPutOne : {S M : Type 0} → ℕ → Net → (ℕ → Node S M) → (ℕ → ℕ → List (Wire M)) → ℕ → Type 0
CanPutOne capacity net nodes held v =
    (i : ℕ) × (i < degree_of net v) × (0 < length (port_at (nodes v).view i).out) × (length (held v i) < capacity)

-- v can make an event: take a wire, put one, or make a pulse
abbrev pub CanMove : {S M E : Type 0} → ℕ → Program S M E → Net → (ℕ → Node S M) → (ℕ → ℕ → List (Wire M)) → ℕ → Type 0
CanMove capacity program net nodes held v =
    CanTakeOne net nodes held v
    ⊎ (CanPutOne capacity net nodes held v ⊎ IsTrue (can_pulse (last_pulse_on program net) (nodes v).view))

-- Over links of any capacity but none some node can make an event, or the network is whole.
abbrev pub SomeNodeCanMove : {S M E : Type 0} → Program S M E → Net → Type 0
SomeNodeCanMove {S} {M} program net =
    (nodes : ℕ → Node S M) (sent taken held : ℕ → ℕ → List (Wire M))
    → Simulates program net nodes sent taken → Splits net sent taken held → (capacity : ℕ) → 0 < capacity
    → ((v : ℕ) × IsVertex net v × CanMove capacity program net nodes held v) ⊎ IsWhole program net nodes held

-- Nodes make at most as many events as a whole run has, and as many exactly if the network is whole.
abbrev pub EventsAreBounded : {S M E : Type 0} → Program S M E → Net → Type 0
EventsAreBounded {S} {M} program net =
    (nodes : ℕ → Node S M) (sent taken held : ℕ → ℕ → List (Wire M))
    → Simulates program net nodes sent taken → Splits net sent taken held
    → (events_made net nodes sent taken ≤ events_of_run program net)
    × (IsWhole program net nodes held ↔ (events_made net nodes sent taken ≡ events_of_run program net))

-- a port at the last pulse from which Close was taken, and at which nothing is left
abbrev pub end_port : {M : Type 0} → Port M
end_port = record {
  waits = false;
  safe = false;
  early_safe = false;
  present = None;
  early = None;
  closed = true;
  out = [];
}

-- the node of v at the last pulse, in the last state of the synchronous run, with such ports
abbrev pub end_node : {S M E : Type 0} → Program S M E → Net → ℕ → Node S M
end_node program net v = record {
  state = last_state program net v;
  view = record { pulse = last_pulse_on program net; said = false; ports = replicate (degree_of net v) end_port };
}

-- The one end: each node is that one, and the list of each link is complete.
pub record HasEnded {S M E : Type 0} (program : Program S M E) (net : Net) (nodes : ℕ → Node S M)
    (sent : ℕ → ℕ → List (Wire M)) : Type 0 where
  pub nodes_are : (v : ℕ) → IsVertex net v → nodes v ≡ end_node program net v
  pub lists : (v i : ℕ) → IsVertex net v → i < degree_of net v
      → IsCompleteOn program net v (neighbour_of net v i) (sent v i)

-- A network that is whole has come to the one end.
abbrev pub WholeNetworksHaveEnded : {S M E : Type 0} → Program S M E → Net → Type 0
WholeNetworksHaveEnded {S} {M} program net =
    (nodes : ℕ → Node S M) (sent taken held : ℕ → ℕ → List (Wire M))
    → Simulates program net nodes sent taken → Splits net sent taken held → IsWhole program net nodes held
    → HasEnded program net nodes sent
