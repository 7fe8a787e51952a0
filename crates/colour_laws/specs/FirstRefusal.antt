-- The first refusal of a node by the rules that its ports break, port by port.
use Rattle.std.specs.Prelude.{◌≡◌, ℕ, ◌<◌, List, Option, Some, None, slice_index_or, take}
use Rattle.node_api.specs.Boxes.{at_port}
use Rattle.node_api.specs.declared.program.Refused.{Refused}
use Rattle.forests.specs.declared.numbering.Role.TheVariants.{Unknown}
use Rattle.colour_rules.specs.declared.payload.Payload.{Payload}
use Rattle.colour_rules.specs.declared.phase.Phase.{Phase}
use Rattle.colour_rules.specs.Node.{Node, ports}
use Rattle.colour_rules.specs.Refusals.{ids_in, port_rule}

-- the rule that a port breaks, given the identifiers that the ports before it brought
abbrev pub rule_at : Node → Phase → List (Option Payload) → ℕ → Option ℕ
rule_at node phase slots port =
    port_rule node (ids_in (take port slots)) phase (slice_index_or node.roles port Unknown) (at_port slots port)

-- the first n ports break no rule
abbrev pub BreakNone : Node → Phase → List (Option Payload) → ℕ → Type 0
BreakNone node phase slots n = (port : ℕ) → port < n → rule_at node phase slots port ≡ None

-- A port breaks a rule, and it is the least that breaks one.
pub record IsLeastBreaking (node : Node) (phase : Phase) (slots : List (Option Payload)) (port rule : ℕ) : Type 0 where
  pub within : port < ports node
  pub breaks : rule_at node phase slots port ≡ Some rule
  pub least : BreakNone node phase slots port

-- a refusal by a rule that a port breaks, and by one that the node itself breaks
abbrev pub by_port : ℕ → ℕ → Option Refused
by_port port rule = Some record { rule = rule; port = Some port }

abbrev pub by_node : ℕ → Option Refused
by_node rule = Some record { rule = rule; port = None }
