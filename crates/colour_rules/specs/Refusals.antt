-- What a node refuses: the first broken rule, by ascending port and then its own.
use Rattle.std.specs.Prelude.{◌≡◌, ℕ, suc, ◌<◌, ◌≤◌, true, false, List, [], ◌∷◌, ◌++◌, Option, Some, None}
use Rattle.std.specs.Prelude.{if◌then◌else◌, nat_lt, count_by, slice_index_or, drop, length}
use Rattle.std.specs.List.{list_any}
use Rattle.std.specs.Option.{option_or}
use Rattle.node_api.specs.declared.program.Refused.{Refused}
use Rattle.node_api.specs.Program.{span}
use Rattle.forests.specs.declared.numbering.Role.{Role}
use Rattle.forests.specs.declared.numbering.Role.TheVariants.{Unknown}
use Rattle.colour_rules.specs.declared.phase.Reduction.TheVariants.{Shift, Drop}
use Rattle.colour_rules.specs.declared.phase.Phase.{Phase}
use Rattle.colour_rules.specs.declared.phase.Phase.TheVariants.{Orient, Work, Merge}
use Rattle.colour_rules.specs.declared.payload.Payload.{Payload}
use Rattle.colour_rules.specs.declared.payload.Payload.TheVariants.{Hello}
use Rattle.colour_rules.specs.declared.rules.TheConstants.{FOREST_RANGE, COLOUR_RANGE, MISSING}
use Rattle.colour_rules.specs.Node.{IsPhase, Node, ports}
use Rattle.colour_rules.specs.Table.{cell, is_due, is_above, value_rule}
use Rattle.colour_rules.specs.Choice.{with_heard, chooses, free_for}

-- The rule that a port breaks: by its payload, or because a payload is missing.
abbrev pub port_rule : Node → List ℕ → Phase → Role → Option Payload → Option ℕ
port_rule node earlier phase role None = if is_due phase role then Some MISSING else None
port_rule node earlier phase role (Some payload) =
    option_or (cell phase role payload) (value_rule node earlier phase role payload)

-- the identifiers that came, with one port more
abbrev pub and_id : List ℕ → Option Payload → List ℕ
and_id earlier (Some (Hello n)) = earlier ++ (n ∷ [])
and_id earlier slot = earlier

-- the refusal of a port, or that of the ports after it
abbrev pub at_port_or : Option ℕ → ℕ → Option Refused → Option Refused
at_port_or (Some rule) port rest = Some record { rule = rule; port = Some port }
at_port_or None port rest = rest

-- the first refusal of a port, from this port on
abbrev pub ports_refusal : Node → Phase → ℕ → List ℕ → List Role → List (Option Payload) → Option Refused
ports_refusal node phase port earlier (role ∷ roles) (slot ∷ slots) =
    at_port_or (port_rule node earlier phase role slot) port
    (ports_refusal node phase (suc port) (and_id earlier slot) roles slots)
ports_refusal node phase port earlier roles slots = None

-- from no port in [from, to) a payload is due
abbrev pub AreUndue : Phase → List Role → ℕ → ℕ → Type 0
AreUndue phase roles from to =
    (port : ℕ) → from ≤ port → port < to → is_due phase (slice_index_or roles port Unknown) ≡ false

-- `refused` names the first port in [from, to) from which a payload is due but missing.
pub record IsFirstMissing (phase : Phase) (roles : List Role) (from to : ℕ) (refused : Refused) : Type 0 where
  pub port : ℕ
  pub is : refused ≡ record { rule = MISSING; port = Some port }
  pub low : from ≤ port
  pub high : port < to
  pub due : is_due phase (slice_index_or roles port Unknown) ≡ true
  pub first : AreUndue phase roles from port

-- the identifiers that came
abbrev pub ids_in : List (Option Payload) → List ℕ
ids_in [] = []
ids_in (Some (Hello n) ∷ slots) = n ∷ ids_in slots
ids_in (slot ∷ slots) = ids_in slots

-- the first refusal of all ports
abbrev pub first_refusal : Node → Phase → List (Option Payload) → Option Refused
first_refusal node phase slots = ports_refusal node phase 0 [] node.roles slots

-- What is left once the ports before this one are looked at: they break no rule, and brought these identifiers.
pub record Looked (node : Node) (phase : Phase) (slots : List (Option Payload)) (port : ℕ) (ids : List ℕ) : Type 0 where
  pub rest : first_refusal node phase slots ≡ ports_refusal node phase port ids (drop port node.roles) (drop port slots)
  pub came : ids ++ ids_in (drop port slots) ≡ ids_in slots

-- The rule that a node itself breaks, once its ports break none: more neighbours of higher identifier than
-- forests, an own colour too high, or no colour free.
abbrev pub own_rule : Node → Phase → List (Option Payload) → Option ℕ
own_rule node Orient inbox =
    if nat_lt node.sizes.forests (count_by (nat_lt node.id) (ids_in inbox)) then Some FOREST_RANGE else None
own_rule node (Work (Shift x)) inbox = if list_any (is_above (Shift x)) node.colours then Some COLOUR_RANGE else None
own_rule node (Work (Drop x)) inbox = if list_any (is_above (Drop x)) node.colours then Some COLOUR_RANGE else None
own_rule node (Merge f s) inbox =
    let here : Node = with_heard node s inbox in
    if chooses here f s then (if nat_lt (span node.sizes) (free_for here) then Some COLOUR_RANGE else None)
    else None
own_rule node phase inbox = None

-- the refusal of a rule that is no port's
abbrev pub without_port : Option ℕ → Option Refused
without_port (Some rule) = Some record { rule = rule; port = None }
without_port None = None

-- the first refusal, by ascending port and then the node's own
abbrev pub refusal : Node → Phase → List (Option Payload) → Option Refused
refusal node phase inbox = option_or (first_refusal node phase inbox) (without_port (own_rule node phase inbox))

-- A phase that there is, and a slot for each port, which neither a port nor the node itself refuses.
pub record IsAccepted (node : Node) (phase : Phase) (slots : List (Option Payload)) : Type 0 where
  pub real : IsPhase node.sizes phase
  pub size : length slots ≡ ports node
  pub by_ports : first_refusal node phase slots ≡ None
  pub by_node : own_rule node phase slots ≡ None
