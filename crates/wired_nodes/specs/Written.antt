-- What the entries of a node say of its run.
use Rattle.std.specs.Prelude.{◌≡◌, ℕ, suc, ◌<◌, ◌==◌, Bool, IsTrue, false, if◌then◌else◌, MatchResult, Some}
use Rattle.std.specs.Prelude.{List, [], ◌∷◌, slice_get}
use Rattle.std.specs.List.{range_with_len}
use Rattle.interference.specs.Net.{Net, degree_of, neighbour_of, port_to}
use Rattle.node_api.specs.Program.{Program, last_pulse_on}
use Rattle.wires.specs.declared.wire.Wire.{Wire}
use Rattle.alpha_core.specs.View.{Node, can_pulse, port_at}
use Rattle.alpha_core.specs.Alpha.{pulse, put_done, reaction}
use Rattle.alpha_core.specs.Program.{start_node}
use Rattle.entries.specs.declared.entry.Entry.{Entry}
use Rattle.entries.specs.declared.entry.Entry.TheVariants.{Pulse, Put, Take}

-- The entries lead a node of v from one state to another: one after the other, the event of each is possible, and what
-- it says is what the event does. A pulse makes the next one; a put takes the oldest wire off the out-list of the port
-- to that neighbour; by a take the node reacts to the wire, and doesn't refuse it.
abbrev pub Leads : {S M E : Type 0} → Program S M E → Net → ℕ → List (Entry M) → Node S M → Node S M → Type 0
Leads program net v [] from to = from ≡ to
Leads program net v (Pulse p ∷ entries) from to =
    IsTrue (can_pulse (last_pulse_on program net) from.view)
    × ((p ≡ suc from.view.pulse)
    × MatchResult (pulse program.next (last_pulse_on program net) from)
    (λ node. Leads program net v entries node to) (λ _. ⊥))
Leads program net v (Put w wire ∷ entries) from to =
    (port_to net v w < degree_of net v)
    × ((slice_get (port_at from.view (port_to net v w)).out 0 ≡ Some wire)
    × Leads program net v entries record from { view = put_done from.view (port_to net v w) } to)
Leads program net v (Take w wire ∷ entries) from to =
    (port_to net v w < degree_of net v)
    × MatchResult (reaction (last_pulse_on program net) from.view (port_to net v w) wire)
    (λ view. Leads program net v entries record from { view = view } to) (λ _. ⊥)

-- the wires that the entries put on the link to a neighbour, in order
abbrev pub puts_in : {M : Type 0} → List (Entry M) → ℕ → List (Wire M)
puts_in [] w = []
puts_in (Pulse p ∷ entries) w = puts_in entries w
puts_in (Put to wire ∷ entries) w = if to == w then wire ∷ puts_in entries w else puts_in entries w
puts_in (Take from wire ∷ entries) w = puts_in entries w

-- the wires that they took from the link of a neighbour, in order
abbrev pub takes_in : {M : Type 0} → List (Entry M) → ℕ → List (Wire M)
takes_in [] w = []
takes_in (Pulse p ∷ entries) w = takes_in entries w
takes_in (Put to wire ∷ entries) w = takes_in entries w
takes_in (Take from wire ∷ entries) w = if from == w then wire ∷ takes_in entries w else takes_in entries w

-- the pulses that they made, in order
abbrev pub pulses_in : {M : Type 0} → List (Entry M) → List ℕ
pulses_in [] = []
pulses_in (Pulse p ∷ entries) = p ∷ pulses_in entries
pulses_in (Put to wire ∷ entries) = pulses_in entries
pulses_in (Take from wire ∷ entries) = pulses_in entries

-- The entries are all that a node of v did, from its start to what it is now, and these are the lists that it put and
-- took, by port.
pub record IsWritten {S M E : Type 0} (program : Program S M E) (net : Net) (v : ℕ) (node : Node S M)
    (puts takens : ℕ → List (Wire M)) (entries : List (Entry M)) : Type 0 where
  pub run : Leads program net v entries (start_node program net v) node
  pub puts_are : (i : ℕ) → i < degree_of net v → puts_in entries (neighbour_of net v i) ≡ puts i
  pub takes_are : (i : ℕ) → i < degree_of net v → takes_in entries (neighbour_of net v i) ≡ takens i
  pub pulses_are : pulses_in entries ≡ range_with_len 1 node.view.pulse

-- With a transcript, the entries are that; without one, there are none.
pub record IsTranscript {S M E : Type 0} (program : Program S M E) (net : Net) (v : ℕ) (transcript : Bool)
    (node : Node S M) (puts takens : ℕ → List (Wire M)) (entries : List (Entry M)) : Type 0 where
  pub written : IsTrue transcript → IsWritten program net v node puts takens entries
  pub none : transcript ≡ false → entries ≡ []
