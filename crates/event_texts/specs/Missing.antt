-- What an event that isn't possible lacks, and what one that is possible writes down: the words behind a refusal's line
use Rattle.std.specs.Prelude.{ℕ, ◌+◌, Bool, not, nat_eq, if◌then◌else◌, Option, Some, None}
use Rattle.std.specs.Prelude.{List, [], ◌∷◌, ◌++◌, codes, flat_map, length, slice_get, slice_index_or}
use Rattle.std.specs.List.{range_with_len}
use Rattle.interference.specs.Net.{Net, degree_of, neighbour_of}
use Rattle.node_api.specs.Program.{Program, last_pulse_on}
use Rattle.alpha_core.specs.View.{Port, View, is_halted, port_at}
use Rattle.wires.specs.declared.wire.Wire.{Wire}
use Rattle.event_rule.specs.declared.event.Event.{Event}
use Rattle.event_rule.specs.declared.event.Event.TheVariants.{Pulse, Put, Take}
use Rattle.event_rule.specs.State.{State, link_to, node_of}
use Rattle.event_rule.specs.Step.{has_port, is_vertex}
use Rattle.event_texts.specs.declared.missing.Lack.{Lack}
use Rattle.event_texts.specs.declared.missing.Lack.TheVariants.{Ack, Safe}
use Rattle.number_rows.specs.Row.{numbered}
use Rattle.program_texts.specs.PayloadTexts.{PayloadTexts}
use Rattle.program_texts.specs.WireText.{wire_text}

-- a port at which a wire of the node's pulse is still to come: its payload's acknowledgement, or the neighbour's safe
abbrev pub lacks : {M : Type 0} → Lack → Port M → Bool
lacks Ack port = port.waits
lacks Safe port = not port.safe

-- the neighbour at a port, if it is one of these
abbrev pub lacking_at : {M : Type 0} → Net → ℕ → View M → Lack → ℕ → List ℕ
lacking_at net v view lack port = if lacks lack (port_at view port) then neighbour_of net v port ∷ [] else []

-- the neighbours at all these ports, ascending
abbrev pub lacking : {M : Type 0} → Net → ℕ → View M → Lack → List ℕ
lacking net v view lack = flat_map (λ port. lacking_at net v view lack port) (range_with_len 0 (degree_of net v))

-- what stands before the name at an index of so many: `of 2, 3 and 5`
abbrev pub before_name : ℕ → ℕ → List ℕ
before_name count index =
    if nat_eq index 0 then codes " of "
    else if nat_eq (index + 1) count then codes " and "
    else codes ", "

abbrev pub name_text : List ℕ → ℕ → List ℕ
name_text names i = numbered (before_name (length names) i) (slice_index_or names i 0)

abbrev pub names_text : List ℕ → List ℕ
names_text names = flat_map (λ i. name_text names i) (range_with_len 0 (length names))

-- words, a pulse and these neighbours, if there are some
abbrev pub lack_text : List ℕ → ℕ → List ℕ → List ℕ
lack_text words p names = if nat_eq (length names) 0 then [] else numbered words p ++ names_text names

-- the words of what comes behind the acknowledgements
abbrev pub safe_words : List ℕ → List ℕ
safe_words acks = if nat_eq (length acks) 0 then codes ": safe " else codes "; safe "

-- that a pulse is the last
abbrev pub last_text : ℕ → List ℕ
last_text p = numbered (codes ": pulse ") p ++ codes " is the last"

-- why a node doesn't make its next pulse: it has made the last one, or these wires are still to come
abbrev pub pulse_text : {M : Type 0} → Net → ℕ → ℕ → View M → List ℕ
pulse_text net last v view =
    if is_halted last view then last_text view.pulse
    else (lack_text (codes ": ack ") view.pulse (lacking net v view Ack)
    ++ lack_text (safe_words (lacking net v view Ack)) view.pulse (lacking net v view Safe))

-- The words behind an event's refusal in a state: what is missing. If there is no such vertex or port there are none.
abbrev pub missing_text : {S M E : Type 0} → Program S M E → Net → State S M → Event → List ℕ
missing_text program net state (Pulse v) =
    if is_vertex net v then pulse_text net (last_pulse_on program net) v (node_of program net state v).view else []
missing_text program net state (Put v i) =
    if has_port net v i then numbered (codes ": list of ") v ++ numbered (codes " for ") (neighbour_of net v i) else []
missing_text program net state (Take v i) =
    if has_port net v i then numbered (codes ": link from ") (neighbour_of net v i) ++ numbered (codes " to ") v else []

-- a wire that an event would have carried
abbrev pub expected_wire : {M : Type 0} → PayloadTexts M → Option (Wire M) → List ℕ
expected_wire payloads None = []
expected_wire payloads (Some wire) = codes ": expected" ++ wire_text payloads wire

-- The words behind an entry of another pulse or wire: the pulse or wire that its event comes to.
abbrev pub expected_text : {S M E : Type 0} → Program S M E → PayloadTexts M → Net → State S M → Event → List ℕ
expected_text program payloads net state (Pulse v) =
    if is_vertex net v then numbered (codes ": expected pulse ") ((node_of program net state v).view.pulse + 1)
    else []
expected_text program payloads net state (Put v i) =
    if has_port net v i
    then expected_wire payloads (slice_get (port_at (node_of program net state v).view i).out 0) else []
expected_text program payloads net state (Take v i) =
    if has_port net v i then expected_wire payloads (slice_get (link_to net state.links v i).held 0) else []
