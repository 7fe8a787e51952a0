-- The text of the state of a network.
use Rattle.std.specs.Prelude.{ℕ, if◌then◌else◌, List, [], ◌++◌, codes, flat_map, length}
use Rattle.std.specs.List.{range_with_len}
use Rattle.interference.specs.Net.{Net, degree_of, neighbour_of, vertices}
use Rattle.node_api.specs.Program.{Program, last_pulse_on}
use Rattle.alpha_core.specs.View.{Node, is_halted}
use Rattle.event_rule.specs.State.{Link, State, link_at, node_of}
use Rattle.program_texts.specs.Texts.{ProgramTexts}
use Rattle.number_rows.specs.Row.{numbered}
use Rattle.program_texts.specs.PayloadTexts.{PayloadTexts}
use Rattle.program_texts.specs.WireText.{wire_text}

-- at the last pulse, the result of the node
abbrev pub result_text : {S M : Type 0} → ProgramTexts S → Net → ℕ → ℕ → Node S M → List ℕ
result_text texts net last v node = if is_halted last node.view then texts.result net v node.state else []

-- `node V pulse P`, and maybe its result
abbrev pub node_text : {S M : Type 0} → ProgramTexts S → Net → ℕ → ℕ → Node S M → List ℕ
node_text texts net last v node =
    numbered (codes "node ") v ++ numbered (codes " pulse ") node.view.pulse ++ result_text texts net last v node
    ++ codes "\n"

module _ {M : Type 0} (payloads : PayloadTexts M) where
  -- `link V W taken N`, and the wires that the link from V to W holds, oldest first
  abbrev pub link_text : ℕ → ℕ → Link M → List ℕ
  link_text v w link =
      numbered (codes "link ") v ++ numbered (codes " ") w ++ numbered (codes " taken ") (length link.taken)
      ++ flat_map (wire_text payloads) link.held ++ codes "\n"

  -- the links out of a vertex, by port
  abbrev pub links_text : {S : Type 0} → Net → State S M → ℕ → List ℕ
  links_text net state v =
      flat_map (λ port. link_text v (neighbour_of net v port) (link_at state.links v port))
      (range_with_len 0 (degree_of net v))

-- for each vertex, ascending, its node and the links out of it
abbrev pub state_text : {S M E : Type 0} → Program S M E → ProgramTexts S → PayloadTexts M → Net → State S M → List ℕ
state_text program texts payloads net state =
    flat_map (λ v. node_text texts net (last_pulse_on program net) v (node_of program net state v)
    ++ links_text payloads net state v) (vertices net)
