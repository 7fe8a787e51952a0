-- What a node tells at pulse 0.
use Rattle.std.proofs.Common.{◌≡◌, ℕ, List, length, ap, ◌∙◌}
use Rattle.std.specs.Prelude.{replicate, Option, Some}
use Rattle.std.proofs.lemmas.List.{length-replicate}
use Rattle.node_api.specs.Boxes.{nothing}
use Rattle.node_api.proofs.Outboxes.{same-for_all}
use Rattle.colour_rules.specs.declared.payload.Payload.{Payload}
use Rattle.colour_rules.specs.declared.payload.Payload.TheVariants.{Hello}
use Rattle.colour_rules.specs.Node.{Node, greet, ports}

-- one payload at each port
pub greets : (node : Node) (id : ℕ) (before after : List (Option Payload)) → id ≡ node.id → before ≡ nothing (ports node) →
    after ≡ replicate (length before) (Some (Hello id)) → (node, after) ≡ greet node
greets node id before after own none told =
    ap (λ (out : List (Option Payload)). (node, out))
    (told
    ∙ ap (λ (n : ℕ). replicate n (Some (Hello id))) (ap (λ (out : List (Option Payload)). length out) none ∙ length-replicate (ports node) _)
    ∙ ap (λ (i : ℕ). replicate (ports node) (Some (Hello i))) own
    ∙ same-for_all (Some (Hello node.id)) node.roles)
