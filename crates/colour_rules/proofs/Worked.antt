-- A node after a pulse of work on its colours.
use Rattle.std.proofs.Common.{◌≡◌, ℕ, Bool, true, false, List, length, refl, ap, ◌∙◌}
use Rattle.std.specs.Prelude.{if◌then◌else◌, map, Option, None, slice_index}
use Rattle.std.specs.List.{range_with_len}
use Rattle.node_api.specs.Boxes.{nothing}
use Rattle.colour_rules.specs.declared.phase.Reduction.{Reduction}
use Rattle.colour_rules.specs.declared.payload.Payload.{Payload}
use Rattle.colour_rules.specs.Node.{Node, ports}
use Rattle.colour_rules.specs.Program.{from_parent, is_last, kept_all, kept_colour, next_colour, next_colours, next_kept, silent}
use Rattle.colour_rules.specs.Program.{tells_colour, turned_all, with_colours}
use Rattle.node_api.proofs.Outboxes.{same-for_all}

module _ (node : Node) (reduction : Reduction) (size : length node.colours ≡ node.sizes.forests) where
  -- the colours are the next ones
  pub colours-are : (slots : List (Option Payload)) →
      turned_all reduction node.colours node.before (λ f. from_parent f node.roles slots) ≡ next_colours node reduction slots
  colours-are slots =
      ap
      (λ (n : ℕ). map (λ f. next_colour reduction (slice_index node.colours f) (slice_index node.before f) (from_parent f node.roles slots))
      (range_with_len 0 n))
      size

  -- and so are those kept beside them
  pub kept-are : kept_all reduction node.colours node.before ≡ next_kept node reduction
  kept-are = ap (λ (n : ℕ). map (λ f. kept_colour reduction (slice_index node.colours f) (slice_index node.before f)) (range_with_len 0 n)) size

pair-is : {X Y : Type 0} (a b : X) (x y : Y) → a ≡ b → x ≡ y → ◌≡◌ {A = X × Y} (a, x) (b, y)
pair-is {X = X} {Y = Y} a b x y e f = ap (λ (c : X). let both : X × Y = (c, x) in both) e ∙ ap (λ (z : Y). let both : X × Y = (b, z) in both) f

-- what is sent by a test
sent-if : (b : Bool) (out x y : List (Option Payload)) → (b ≡ true → out ≡ x) → (b ≡ false → out ≡ y) → out ≡ (if b then x else y)
sent-if true out x y last more = last refl
sent-if false out x y last more = more refl

module _ (node after : Node) (reduction : Reduction) (colours before : List ℕ) (is : after ≡ record node { colours = colours; before = before })
    (out : List (Option Payload)) where
  sent : out ≡ (if is_last reduction then silent node.roles else map (tells_colour colours) node.roles) →
      (after, out) ≡ with_colours node reduction colours before
  sent told = pair-is after _ out _ is told

  -- before the last work each child is told
  pub tells-on : is_last reduction ≡ false → out ≡ map (tells_colour after.colours) after.roles → (after, out) ≡ with_colours node reduction colours before
  tells-on more told = sent (sent-if (is_last reduction) out _ _ (λ last. absurd (cc)) (λ _. told ∙ ap (λ (n : Node). map (tells_colour n.colours) n.roles) is))

  -- and at the last nothing is sent
  pub tells-nothing : is_last reduction ≡ true → out ≡ nothing (ports node) → (after, out) ≡ with_colours node reduction colours before
  tells-nothing last none = sent (sent-if (is_last reduction) out _ _ (λ _. none ∙ same-for_all None node.roles) (λ more. absurd (cc)))
