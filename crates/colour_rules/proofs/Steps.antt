-- A step of the merging, at the node's turn and at the others.
use Rattle.std.proofs.Common.{◌≡◌, ℕ, suc, ◌==◌, Bool, true, false, List, ap, sym, ◌∙◌}
use Rattle.std.specs.Prelude.{if◌then◌else◌, map, Option}
use Rattle.node_api.specs.Boxes.{nothing}
use Rattle.colour_rules.specs.declared.payload.Payload.{Payload}
use Rattle.colour_rules.specs.declared.phase.Phase.TheVariants.{Merge}
use Rattle.colour_rules.specs.Node.{Node, ports, steps}
use Rattle.colour_rules.specs.Choice.{chooses, free_for, with_heard}
use Rattle.colour_rules.specs.Program.{work_of, silent, tells_chosen}
use Rattle.node_api.proofs.Outboxes.{same-for_all}

abbrev Sent : Type 0
Sent = List (Option Payload)

-- nothing at any port is silence
pub silent-is : (node : Node) → nothing (ports node) ≡ silent node.roles
silent-is node = same-for_all _ node.roles

-- what is sent where something is so
pub told-if : (b : Bool) (out x y : Sent) → b ≡ true → out ≡ x → out ≡ (if b then x else y)
told-if true out x y e h = h
told-if false out x y e h = absurd (cc)

pub told-else : (b : Bool) (out x y : Sent) → b ≡ false → out ≡ y → out ≡ (if b then x else y)
told-else true out x y e h = absurd (cc)
told-else false out x y e h = h

module _ (node : Node) (f s : ℕ) (inbox out : Sent) (here : Node) (is : here ≡ with_heard node s inbox) where
  -- a node whose turn it isn't has gathered, and is silent
  pub waits-is : false ≡ chooses (with_heard node s inbox) f s → out ≡ nothing (ports node) → (here, out) ≡ work_of node (Merge f s) inbox
  waits-is wait quiet =
      rw (sym wait) (ap (λ (n : Node). (n, out)) is ∙ ap (λ (o : Sent). (with_heard node s inbox, o)) (quiet ∙ silent-is node))

  -- a node at its turn takes a colour and tells it, but for the last step
  pub turns-is : true ≡ chooses (with_heard node s inbox) f s → (c : ℕ) → c ≡ free_for here →
      out ≡ (if suc s == steps node.sizes then silent node.roles else map (tells_chosen f c) node.roles) →
      (record here { merged = c }, out) ≡ work_of node (Merge f s) inbox
  turns-is turn c free told =
      let same : c ≡ free_for (with_heard node s inbox) = free ∙ ap free_for is in
      rw (sym turn)
      (ap (λ (n : Node). (record n { merged = c }, out)) is
      ∙ (ap (λ (o : Sent). (record (with_heard node s inbox) { merged = c }, o)) told
      ∙ ap (λ (d : ℕ). (
        record (with_heard node s inbox) { merged = d },
        if suc s == steps node.sizes then silent node.roles else map (tells_chosen f d) node.roles,
      )) same))
