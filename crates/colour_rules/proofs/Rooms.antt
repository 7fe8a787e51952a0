-- A phase in which there is nothing to do.
use Rattle.std.proofs.Common.{◌≡◌, List, ap, sym, ◌∙◌}
use Rattle.std.specs.Prelude.{Option}
use Rattle.colour_rules.specs.declared.payload.Payload.{Payload}
use Rattle.colour_rules.specs.declared.phase.Phase.{Phase}
use Rattle.colour_rules.specs.Node.{Node, ports}
use Rattle.colour_rules.specs.Program.{work_of, silent}
use Rattle.node_api.proofs.Outboxes.{same-for_all}
use Rattle.node_api.specs.Boxes.{nothing}

-- where there is nothing to do, nothing is done
pub idle-is : (node : Node) (phase : Phase) (inbox out : List (Option Payload)) → work_of node phase inbox ≡ (node, silent node.roles) →
    out ≡ nothing (ports node) → (node, out) ≡ work_of node phase inbox
idle-is node phase inbox out none quiet = ap (λ (o : List (Option Payload)). (node, o)) (quiet ∙ same-for_all _ node.roles) ∙ sym none
