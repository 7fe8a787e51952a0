-- Which event an entry is of, and what an event writes down.
use Rattle.std.specs.Prelude.{ℕ, ◌+◌, Bool, Option, Some, None, option_map, Result, Ok, Err, List, [], ◌∷◌, slice_get}
use Rattle.interference.specs.Net.{Net, neighbour_of, port_to}
use Rattle.node_api.specs.Program.{Program}
use Rattle.alpha_core.specs.View.{port_at}
use Rattle.wires.specs.declared.wire.Wire.{Wire}
use Rattle.entries.specs.declared.entry.Entry.{Entry}
use Rattle.entries.specs.declared.entry.Entry.TheVariants as entry
use Rattle.entries.specs.Rows.{vertex_row}
use Rattle.event_rule.specs.declared.event.Event.{Event}
use Rattle.event_rule.specs.declared.event.Event.TheVariants.{Pulse, Put, Take}
use Rattle.event_rule.specs.State.{State, link_to, node_of, start}
use Rattle.event_rule.specs.Step.{has_port, is_vertex, step}
-- an entry with the vertex of its node
use Rattle.entries.specs.declared.rows.Row.{Row}

-- the event that an entry of v is of; the port to a neighbour that is none is one that isn't there
abbrev pub event_with : {M : Type 0} → Net → ℕ → Entry M → Event
event_with net v (entry.Pulse p) = Pulse v
event_with net v (entry.Put w wire) = Put v (port_to net v w)
event_with net v (entry.Take w wire) = Take v (port_to net v w)

abbrev pub event_of : {M : Type 0} → Net → Row M → Event
event_of net row = event_with net row.vertex row.entry

-- there are the vertex and the port of an event
abbrev pub has_place : Net → Event → Bool
has_place net (Pulse v) = is_vertex net v
has_place net (Put v i) = has_port net v i
has_place net (Take v i) = has_port net v i

-- the wire that an event moves, if it is possible: the oldest one of the out-list, or of the link
abbrev pub next_wire : {S M E : Type 0} → Program S M E → Net → State S M → Event → Option (Wire M)
next_wire program net state (Pulse v) = None
next_wire program net state (Put v i) = slice_get (port_at (node_of program net state v).view i).out 0
next_wire program net state (Take v i) = slice_get (link_to net state.links v i).held 0

-- what an event that is possible in a state writes down: its new pulse, or the neighbour and the wire
abbrev pub row_of : {S M E : Type 0} → Program S M E → Net → State S M → Event → Option (Row M)
row_of program net state (Pulse v) =
    Some (vertex_row v (entry.Pulse ((node_of program net state v).view.pulse + 1)))
row_of program net state (Put v i) =
    option_map (λ wire. vertex_row v (entry.Put (neighbour_of net v i) wire)) (next_wire program net state (Put v i))
row_of program net state (Take v i) =
    option_map (λ wire. vertex_row v (entry.Take (neighbour_of net v i) wire)) (next_wire program net state (Take v i))

-- what comes behind an event, if it was possible
abbrev pub if_made : {A B E : Type 0} → Result A E → (A → List B) → List B
if_made (Ok next) rest = rest next
if_made (Err refused) rest = []

-- what the events of a list write down, one after the other, from a state
abbrev pub rows_from : {S M E : Type 0} → Program S M E → Net → State S M → List Event → List (Option (Row M))
rows_from program net state [] = []
rows_from program net state (event ∷ events) =
    row_of program net state event
    ∷ if_made (step program net state event) (λ next. rows_from program net next events)

-- what they write down from the start
abbrev pub rows_of : {S M E : Type 0} → Program S M E → Net → List Event → List (Option (Row M))
rows_of program net events = rows_from program net (start program net) events
