-- One event, and a list of events, as functions of the state. `Events` says the same in relations.
use Rattle.std.specs.Prelude.{◌≡◌, ◌≢◌, ℕ, suc, Bool, ◌&&◌, nat_lt, nat_le, if◌then◌else◌}
use Rattle.std.specs.Prelude.{List, [], ◌∷◌, ◌++◌, Result, Ok, Err, MatchResult}
use Rattle.interference.specs.Net.{Net, count_of, degree_of}
use Rattle.node_api.specs.Program.{Program, last_pulse_on}
use Rattle.wires.specs.declared.wire.Wire.{Wire}
use Rattle.alpha_core.specs.View.{Node, port_at, can_pulse}
use Rattle.alpha_core.specs.Alpha.{pulse, reaction, put_done}
use Rattle.event_rule.specs.declared.event.Event.{Event}
use Rattle.event_rule.specs.declared.event.Event.TheVariants.{Pulse, Put, Take}
use Rattle.event_rule.specs.declared.refused.StepRefused.{StepRefused}
use Rattle.event_rule.specs.declared.refused.StepRefused.TheVariants.{NotReady, NothingToPut, LinkEmpty, NoSuch}
use Rattle.event_rule.specs.declared.refused.StepRefused.TheVariants.{Memory}
use Rattle.event_rule.specs.declared.refused.RunRefused.{RunRefused}
use Rattle.event_rule.specs.Refusals.{at_index}
use Rattle.event_rule.specs.State.{State, NetView, start, node_of, link_at, link_to, set_node, set_link, set_link_to}

abbrev pub is_vertex : Net → ℕ → Bool
is_vertex net v = nat_le 1 v && nat_le v (count_of net)

abbrev pub has_port : Net → ℕ → ℕ → Bool
has_port net v i = is_vertex net v && nat_lt i (degree_of net v)

-- what a call made, or what was there before it if the call refused
abbrev pub else_old : {A E : Type 0} → A → Result A E → A
else_old old (Ok new) = new
else_old old (Err refused) = old

-- v makes its next pulse; `Simulates` says that no state that is reached has a node whose program refuses it
abbrev pub after_pulse : {S M E : Type 0} → Program S M E → Net → State S M → ℕ → Node S M → State S M
after_pulse program net state v node = record {
  nodes = set_node state.nodes v (else_old node (pulse program.next (last_pulse_on program net) node));
  links = state.links;
}

-- v puts the oldest wire of its out-list at port i on the link
abbrev pub after_put : {S M : Type 0} → State S M → ℕ → ℕ → Node S M → List (Wire M) → Result (State S M) StepRefused
after_put state v i node [] = Err NothingToPut
after_put state v i node (wire ∷ rest) = Ok record {
  nodes = set_node state.nodes v record { state = node.state; view = put_done node.view i };
  links = set_link state.links v i record (link_at state.links v i) {
    held =
        (link_at state.links v i).held ++ (wire ∷ []);
  };
}

-- v takes the oldest wire that the link to its port i holds, and reacts; nor does it refuse in a state that is reached
abbrev pub after_take : {S M : Type 0} → ℕ → Net → State S M → ℕ → ℕ → Node S M → List (Wire M) →
    Result (State S M) StepRefused
after_take last net state v i node [] = Err LinkEmpty
after_take last net state v i node (wire ∷ rest) = Ok record {
  nodes = set_node state.nodes v record {
    state = node.state;
    view =
        else_old node.view (reaction last node.view i wire);
  };
  links = set_link_to net state.links v i record {
    taken = (link_to net state.links v i).taken ++ (wire ∷ []);
    held =
        rest;
  };
}

-- One event: the next state, or why the event isn't possible.
abbrev pub step : {S M E : Type 0} → Program S M E → Net → State S M → Event → Result (State S M) StepRefused
step program net state (Pulse v) =
    if is_vertex net v
    then (if can_pulse (last_pulse_on program net) (node_of program net state v).view
    then Ok (after_pulse program net state v (node_of program net state v))
    else Err NotReady)
    else Err NoSuch
step program net state (Put v i) =
    if has_port net v i
    then after_put state v i (node_of program net state v) (port_at (node_of program net state v).view i).out
    else Err NoSuch
step program net state (Take v i) =
    if has_port net v i
    then after_take (last_pulse_on program net) net state v i (node_of program net state v)
    (link_to net state.links v i).held
    else Err NoSuch

-- the rest of a run after a step at index k
abbrev pub go_on : {A B : Type 0} → ℕ → Result A StepRefused → (A → Result B RunRefused) → Result B RunRefused
go_on k (Ok x) rest = rest x
go_on k (Err refused) rest = Err (at_index k refused)

-- The events of a list, one after the other; the first of them has index k.
abbrev pub run_from : {S M E : Type 0} → Program S M E → Net → ℕ → List Event → State S M →
    Result (State S M) RunRefused
run_from program net k [] state = Ok state
run_from program net k (event ∷ events) state =
    go_on k (step program net state event) (λ next. run_from program net (suc k) events next)

-- A list of events from the start: the state that it reaches, or the refusal of the first event that isn't possible.
abbrev pub run : {S M E : Type 0} → Program S M E → Net → List Event → Result (State S M) RunRefused
run program net events = run_from program net 0 events (start program net)

-- A call of `step` does what the function says: it leads to its state, or is refused as it says. Of memory the function
-- says nothing.
abbrev pub StepMatches : {A S M E : Type 0} → Program S M E → NetView S M → Event → Result A StepRefused →
    NetView S M → Type 0
StepMatches program old event result new = MatchResult result
    (λ _. step program old.net old.state event ≡ Ok new.state)
    (λ refused. refused ≢ Memory → step program old.net old.state event ≡ Err refused)
