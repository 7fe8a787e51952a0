-- What a node sends by the roles of its ports, one port after another.
use Rattle.std.proofs.Common.{◌≡◌, ℕ, Bool, true, List, [], ◌∷◌, length, refl, ap, sym, ◌∙◌}
use Rattle.std.specs.Prelude.{if◌then◌else◌, map, replicate, Option, Some, None}
use Rattle.std.specs.List.{list_all}
use Rattle.std.proofs.lemmas.List.{length-replicate}
use Rattle.std.proofs.lemmas.Bool.{and_parts}
use Rattle.node_api.specs.Boxes.{nothing}
use Rattle.forests.specs.declared.numbering.Role.{Role}
use Rattle.colour_rules.specs.declared.payload.Payload.{Payload}
use Rattle.colour_rules.specs.declared.payload.Payload.TheVariants.{Chosen}
use Rattle.colour_rules.specs.Node.{Node, ports}
use Rattle.colour_rules.specs.Program.{tells_chosen}
use Rattle.colour_rules.specs.Table.{is_merged}

-- ports that are all of a forest up to f are all told a colour that is chosen there
all-told : (f c : ℕ) (roles : List Role) → list_all (is_merged f) roles ≡ true →
    replicate (length roles) (Some (Chosen c)) ≡ map (tells_chosen f c) roles
all-told f c [] h = refl
all-told f c (role ∷ roles) h =
    let at = and_parts (is_merged f role) (list_all (is_merged f) roles) h in
    ap (λ (b : Bool). (if b then Some (Chosen c) else None) ∷ replicate (length roles) (Some (Chosen c))) (sym at.0)
    ∙ ap (λ (rest : List (Option Payload)). tells_chosen f c role ∷ rest) (all-told f c roles at.1)

-- and so by a broadcast
pub told-by-broadcast : (node : Node) (f c : ℕ) (before after : List (Option Payload)) → c ≡ node.merged → before ≡ nothing (ports node) →
    after ≡ replicate (length before) (Some (Chosen c)) → list_all (is_merged f) node.roles ≡ true → after ≡ map (tells_chosen f node.merged) node.roles
told-by-broadcast node f c before after own none told all =
    told
    ∙ ap (λ (n : ℕ). replicate n (Some (Chosen c))) (ap (λ (out : List (Option Payload)). length out) none ∙ length-replicate (ports node) _)
    ∙ ap (λ (d : ℕ). replicate (ports node) (Some (Chosen d))) own
    ∙ all-told f node.merged node.roles all
