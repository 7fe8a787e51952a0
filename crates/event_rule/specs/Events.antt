-- When an event is possible, what it leads to, and what a run is, in relations.
use Rattle.std.specs.Prelude.{◌≡◌, ◌↔◌, ◌⊎◌, ℕ, ◌+◌, ◌<◌, IsTrue, List, [], ◌∷◌, ◌++◌, length, Ok, Err}
use Rattle.interference.specs.Net.{Net, IsVertex, degree_of}
use Rattle.node_api.specs.Program.{Program, last_pulse_on}
use Rattle.wires.specs.declared.wire.Wire.{Wire}
use Rattle.alpha_core.specs.View.{View, Node, port_at, can_pulse}
use Rattle.alpha_core.specs.Alpha.{pulse, reaction, put_done}
use Rattle.event_rule.specs.declared.event.Event.{Event}
use Rattle.event_rule.specs.declared.event.Event.TheVariants.{Pulse, Put, Take}
use Rattle.event_rule.specs.declared.refused.StepRefused.{StepRefused}
use Rattle.event_rule.specs.declared.refused.StepRefused.TheVariants.{NotReady, NothingToPut, LinkEmpty, NoSuch}
use Rattle.event_rule.specs.declared.refused.RunRefused.{RunRefused}
use Rattle.event_rule.specs.Refusals.{at_index}
use Rattle.event_rule.specs.State.{State, start, node_of, link_at, link_to, sent_of, set_node, set_link, set_link_to}
use Rattle.event_rule.specs.Step.{run, step}

-- the vertex and the port that an event names are there
abbrev pub Exists : Net → Event → Type 0
Exists net (Pulse v) = IsVertex net v
Exists net (Put v i) = IsVertex net v × (i < degree_of net v)
Exists net (Take v i) = IsVertex net v × (i < degree_of net v)

-- a pulse: the node can pulse; a put: the out-list isn't empty; a take: fewer wires are taken than put on the link
abbrev pub Ready : {S M E : Type 0} → Program S M E → Net → State S M → Event → Type 0
Ready program net state (Pulse v) = IsTrue (can_pulse (last_pulse_on program net) (node_of program net state v).view)
Ready program net state (Put v i) = 0 < length (port_at (node_of program net state v).view i).out
Ready program net state (Take v i) =
    length (link_to net state.links v i).taken < length (sent_of (link_to net state.links v i))

-- An event is possible.
abbrev pub Possible : {S M E : Type 0} → Program S M E → Net → State S M → Event → Type 0
Possible program net state event = Exists net event × Ready program net state event

-- Memory is needed by a put alone, and by one that is possible.
abbrev pub NeedsMemory : {S M E : Type 0} → Program S M E → Net → State S M → Event → Type 0
NeedsMemory program net state (Pulse v) = ⊥
NeedsMemory program net state (Put v i) = Possible program net state (Put v i)
NeedsMemory program net state (Take v i) = ⊥

-- the refusal of an event that isn't ready
abbrev pub not_ready : Event → StepRefused
not_ready (Pulse v) = NotReady
not_ready (Put v i) = NothingToPut
not_ready (Take v i) = LinkEmpty

-- Why an event isn't possible: vertex and port are looked at first.
abbrev pub WhyNot : {S M E : Type 0} → Program S M E → Net → State S M → Event → StepRefused → Type 0
WhyNot program net state event refused =
    ((Exists net event → ⊥) × (refused ≡ NoSuch))
    ⊎ (Exists net event × (Ready program net state event → ⊥) × (refused ≡ not_ready event))

-- v makes its next pulse.
pub record Pulses {S M E : Type 0} (program : Program S M E) (net : Net) (state : State S M) (v : ℕ)
    (next : State S M) : Type 0 where
  pub possible : Possible program net state (Pulse v)
  pub node : Node S M
  pub pulsed : pulse program.next (last_pulse_on program net) (node_of program net state v) ≡ Ok node
  pub leads : next ≡ record { nodes = set_node state.nodes v node; links = state.links }

-- The oldest wire of the out-list goes to the end of what was put on the link.
pub record Puts {S M E : Type 0} (program : Program S M E) (net : Net) (state : State S M) (v i : ℕ)
    (next : State S M) : Type 0 where
  pub possible : Possible program net state (Put v i)
  pub wire : Wire M
  pub rest : List (Wire M)
  pub oldest : (port_at (node_of program net state v).view i).out ≡ wire ∷ rest
  pub leads : next ≡ record {
    nodes = set_node state.nodes v record (node_of program net state v) {
      view =
          put_done (node_of program net state v).view i;
    };
    links = set_link state.links v i record (link_at state.links v i) {
      held =
          (link_at state.links v i).held ++ (wire ∷ []);
    };
  }

-- The next wire of the link goes to what was taken, and v reacts.
pub record Takes {S M E : Type 0} (program : Program S M E) (net : Net) (state : State S M) (v i : ℕ)
    (next : State S M) : Type 0 where
  pub possible : Possible program net state (Take v i)
  pub wire : Wire M
  pub rest : List (Wire M)
  pub oldest : (link_to net state.links v i).held ≡ wire ∷ rest
  pub view : View M
  pub reacted : reaction (last_pulse_on program net) (node_of program net state v).view i wire ≡ Ok view
  pub leads : next ≡ record {
    nodes = set_node state.nodes v record (node_of program net state v) { view = view };
    links = set_link_to net state.links v i record {
      taken = (link_to net state.links v i).taken ++ (wire ∷ []);
      held = rest;
    };
  }

-- An event leads from a state to the next.
abbrev pub Steps : {S M E : Type 0} → Program S M E → Net → State S M → Event → State S M → Type 0
Steps program net state (Pulse v) next = Pulses program net state v next
Steps program net state (Put v i) next = Puts program net state v i next
Steps program net state (Take v i) next = Takes program net state v i next

-- `step` leads exactly where the event does, and refuses exactly an event that isn't possible, and why.
pub record StepsExactly {S M E : Type 0} (program : Program S M E) (net : Net) (state : State S M) (event : Event)
    : Type 0 where
  pub leads : (next : State S M) → (step program net state event ≡ Ok next) ↔ Steps program net state event next
  pub refuses : (refused : StepRefused) → (step program net state event ≡ Err refused)
      ↔ WhyNot program net state event refused

-- A run from a state: each event is possible where it stands, and leads to where the next one stands.
abbrev pub IsRunFrom : {S M E : Type 0} → Program S M E → Net → State S M → List Event → State S M → Type 0
IsRunFrom program net state [] last = last ≡ state
IsRunFrom {S} {M} program net state (event ∷ events) last =
    (next : State S M) × Steps program net state event next × IsRunFrom program net next events last

-- a run from the start
abbrev pub IsRun : {S M E : Type 0} → Program S M E → Net → List Event → State S M → Type 0
IsRun program net events last = IsRunFrom program net (start program net) events last

-- The events before one of them are a run, and that one isn't possible where they lead: the refusal says why, and has
-- its index. The first event of the list has index k.
pub record StopsFrom {S M E : Type 0} (program : Program S M E) (net : Net) (k : ℕ) (state : State S M)
    (events : List Event)
    (refused : RunRefused) : Type 0 where
  pub before : List Event
  pub event : Event
  pub after : List Event
  pub splits : events ≡ before ++ (event ∷ after)
  pub reached : State S M
  pub is_run : IsRunFrom program net state before reached
  pub reason : StepRefused
  pub why : WhyNot program net reached event reason
  pub index : refused ≡ at_index (k + length before) reason

-- a list of events stops, from the start
abbrev pub Stops : {S M E : Type 0} → Program S M E → Net → List Event → RunRefused → Type 0
Stops program net events refused = StopsFrom program net 0 (start program net) events refused

-- `run` accepts exactly the runs, each with the state that it leads to, and refuses a list exactly with the index of
-- its first event that isn't possible, and why.
pub record RunsExactly {S M E : Type 0} (program : Program S M E) (net : Net) (events : List Event) : Type 0 where
  pub accepts : (last : State S M) → (run program net events ≡ Ok last) ↔ IsRun program net events last
  pub refuses : (refused : RunRefused) → (run program net events ≡ Err refused) ↔ Stops program net events refused
