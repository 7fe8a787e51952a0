-- A node keeps its ports.
use Rattle.std.proofs.Common.{◌≡◌, ℕ, suc, ◌==◌, Bool, true, false, List, [], ◌∷◌, length, refl, ◌∙◌, arith}
use Rattle.std.specs.Prelude.{if◌then◌else◌, map, Option, Some, None, IfOk}
use Rattle.std.proofs.lemmas.List.{length-map, length-replicate}
use Rattle.node_api.specs.Laws.{KeepsPorts}
use Rattle.node_api.specs.declared.program.Refused.{Refused}
use Rattle.colour_rules.specs.declared.payload.Payload.{Payload}
use Rattle.forests.specs.declared.numbering.Role.{Role}
use Rattle.colour_rules.specs.Node.{Node, phase_of, ports, steps}
use Rattle.colour_rules.specs.Choice.{free_for, with_heard, chooses}
use Rattle.colour_rules.specs.Refusals.{refusal, ids_in}
use Rattle.colour_rules.specs.Program.{colouring, work_of, answered, all_labelled, silent, tells_colour, tells_chosen, oriented_slot, is_last}
use Rattle.colour_rules.specs.declared.phase.Phase.{Phase}
use Rattle.colour_rules.specs.declared.phase.Phase.TheVariants.{Greet, Orient, Seed, Work, Merge, Halted}

abbrev Keeps : ℕ → Node × List (Option Payload) → Type 0
Keeps n node = (ports node.0 ≡ n) × (length node.1 ≡ n)

-- a port keeps its place as it becomes known
pub length-labelled : (roles : List Role) (inbox : List (Option Payload)) → length inbox ≡ length roles → length (all_labelled roles inbox) ≡ length roles
length-labelled [] inbox e = refl
length-labelled (role ∷ roles) [] e = absurd (omega arith)
length-labelled (role ∷ roles) (slot ∷ inbox) e = let more : length (all_labelled roles inbox) ≡ length roles = length-labelled roles inbox (omega arith) in
    omega arith

length-if : {X : Type 0} (b : Bool) (xs ys : List X) (n : ℕ) → length xs ≡ n → length ys ≡ n → length (if b then xs else ys) ≡ n
length-if true xs ys n e f = e
length-if false xs ys n e f = f

pub done-keeps : (node : Node) (phase : Phase) (inbox : List (Option Payload)) → length inbox ≡ ports node → Keeps (ports node) (work_of node phase inbox)
done-keeps node Greet inbox e = (refl, length-map node.roles _)
done-keeps node Orient inbox e = (length-map inbox _ ∙ e, length-map (map (oriented_slot node.id (ids_in inbox)) inbox) _ ∙ length-map inbox _ ∙ e)
done-keeps node Seed inbox e = (length-labelled node.roles inbox e, length-map (all_labelled node.roles inbox) _ ∙ length-labelled node.roles inbox e)
done-keeps node (Work reduction) inbox e = (
  refl,
  length-if (is_last reduction) (silent node.roles) (map (tells_colour _) node.roles) (ports node)
      (length-map node.roles _) (length-map node.roles _),
)
done-keeps node (Merge f s) inbox e = (
  refl,
  length-if (chooses (with_heard node s inbox) f s) _ _ (ports node)
      (length-if (suc s == steps node.sizes) (silent node.roles) (map (tells_chosen f (free_for (with_heard node s inbox))) node.roles) (ports node)
      (length-map node.roles _) (length-map node.roles _)) (length-map node.roles _),
)
done-keeps node Halted inbox e = (refl, length-map node.roles _)

answered-keeps : (n : ℕ) (r : Option Refused) (node : Node × List (Option Payload)) → Keeps n node → IfOk (answered r node) (Keeps n)
answered-keeps n None node h = h
answered-keeps n (Some refused) node h = tt

pub keeps : KeepsPorts colouring
keeps = record {
  made_ports = λ own. length-replicate own.degree _;
  greet_shape = λ node. (refl, length-map node.roles _);
  next_shape = λ node p inbox e. answered-keeps (ports node) (refusal node (phase_of node.sizes p) inbox) (work_of node (phase_of node.sizes p) inbox)
      (done-keeps node (phase_of node.sizes p) inbox e);
}
