-- Where no port is refused, each port breaks no rule.
use Rattle.std.proofs.Common.{◌≡◌, ℕ, zero, suc, ◌<◌, List, [], ◌∷◌, length, arith, get_or, refl}
use Rattle.std.specs.Prelude.{Option, Some, None}
use Rattle.node_api.specs.Boxes.{at_port}
use Rattle.node_api.specs.declared.program.Refused.{Refused}
use Rattle.forests.specs.declared.numbering.Role.{Role}
use Rattle.forests.specs.declared.numbering.Role.TheVariants.{Unknown}
use Rattle.colour_rules.specs.declared.phase.Phase.{Phase}
use Rattle.colour_rules.specs.declared.payload.Payload.{Payload}
use Rattle.colour_rules.specs.Node.{Node}
use Rattle.colour_rules.specs.Refusals.{and_id, at_port_or, port_rule, ports_refusal}

pub neither : (rule : Option ℕ) (port : ℕ) (rest : Option Refused) → at_port_or rule port rest ≡ None → (rule ≡ None) × (rest ≡ None)
neither None port rest none = (refl, none)
neither (Some rule) port rest none = absurd (cc)

-- a port breaks no rule, after what the ports before it brought
pub fine_at : (node : Node) (phase : Phase) (port : ℕ) (earlier : List ℕ) (roles : List Role) (slots : List (Option Payload)) → length slots ≡ length roles →
    ports_refusal node phase port earlier roles slots ≡ None → (k : ℕ) → k < length roles → (heard : List ℕ) ×
    (port_rule node heard phase (get_or roles k Unknown) (at_port slots k) ≡ None)
fine_at node phase port earlier [] slots size none k h = absurd (omega arith)
fine_at node phase port earlier (role ∷ roles) [] size none k h = absurd (omega arith)
fine_at node phase port earlier (role ∷ roles) (slot ∷ slots) size none zero h =
    (earlier, (neither (port_rule node earlier phase role slot) port (ports_refusal node phase (suc port) (and_id earlier slot) roles slots) none).0)
fine_at node phase port earlier (role ∷ roles) (slot ∷ slots) size none (suc k) h =
    fine_at node phase (suc port) (and_id earlier slot) roles slots (omega arith) (neither (port_rule node earlier phase role slot) port
    (ports_refusal node phase (suc port) (and_id earlier slot) roles slots) none).1 k (omega arith)
