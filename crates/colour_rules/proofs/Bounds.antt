-- What an inbox that is not refused says of the numbers in it.
use Rattle.std.proofs.Common.{◌≡◌, ℕ, ◌<◌, ◌≤◌, ◌==◌, Bool, true, false, List, [], length, get_or, refl, ap, sym, ◌∙◌, arith}
use Rattle.std.specs.Prelude.{if◌then◌else◌, nat_lt, Option, Some, None}
use Rattle.std.proofs.lemmas.Bool.Decides.{nat_tests}
use Rattle.std.proofs.Math.ListN.{get_or-eq_default}
use native.Mathlib.Decide.{dec_lt}
use Prim.{yes, no}
use Rattle.node_api.specs.Boxes.{at_port}
use Rattle.forests.specs.declared.numbering.Role.{Role}
use Rattle.forests.specs.declared.numbering.Role.TheVariants.{Unknown, Up, Down}
use Rattle.node_api.specs.Program.{span}
use Rattle.colour_rules.specs.declared.payload.Payload.{Payload}
use Rattle.colour_rules.specs.declared.payload.Payload.TheVariants.{Label, Chosen}
use Rattle.colour_rules.specs.declared.phase.Phase.{Phase}
use Rattle.colour_rules.specs.declared.phase.Phase.TheVariants.{Seed, Merge}
use Rattle.colour_rules.specs.Node.{Node, ports}
use Rattle.colour_rules.specs.declared.rules.TheConstants.{FOREST_RANGE, COLOUR_RANGE}
use Rattle.colour_rules.specs.Table.{is_merged}
use Rattle.colour_rules.specs.Refusals.{first_refusal, port_rule}
use Rattle.colour_rules.proofs.Accepted.{fine_at}

-- a port that brought something is one of the ports
is_port : (slots : List (Option Payload)) (port : ℕ) (payload : Payload) → at_port slots port ≡ Some payload → port < length slots
is_port slots port payload here =
    elim (dec_lt port (length slots)) [
      | yes below ↦ below
      | no past ↦ (let none : at_port slots port ≡ None = get_or-eq_default slots None (omega arith) in
          absurd (cc))
    ]

-- what came from a port breaks no rule there
came : (node : Node) (phase : Phase) (slots : List (Option Payload)) → length slots ≡ ports node → first_refusal node phase slots ≡ None →
    (port : ℕ) (payload : Payload) → at_port slots port ≡ Some payload → (heard : List ℕ) ×
    (port_rule node heard phase (get_or node.roles port Unknown) (Some payload) ≡ None)
came node phase slots size none port payload here =
    let fine = fine_at node phase 0 [] node.roles slots size none port (let h : port < length slots = is_port slots port payload here in omega arith) in
    (fine.0, ap (port_rule node fine.0 phase (get_or node.roles port Unknown)) (sym here) ∙ fine.1)

-- the rule of a label, by whether it is a forest
abbrev label_rule : Bool → Option ℕ
label_rule b = if b then None else Some FOREST_RANGE

label_test : (f n : ℕ) (b : Bool) → nat_lt f n ≡ b → label_rule b ≡ None → f < n
label_test f n true e h = grind (arith, nat_tests)
label_test f n false e h = absurd (cc)

label_fine : (node : Node) (heard : List ℕ) (role : Role) (f : ℕ) → port_rule node heard Seed role (Some (Label f)) ≡ None → f < node.sizes.forests
label_fine node heard Unknown f h = label_test f node.sizes.forests (nat_lt f node.sizes.forests) refl h
label_fine node heard (Up g) f h = absurd (cc)
label_fine node heard (Down g) f h = absurd (cc)

-- at Seed a label that came is a forest
pub labels-within : (node : Node) (slots : List (Option Payload)) → length slots ≡ ports node → first_refusal node Seed slots ≡ None → (port f : ℕ) →
    at_port slots port ≡ Some (Label f) → f < node.sizes.forests
labels-within node slots size none port f here =
    let c = came node Seed slots size none port (Label f) here in
    label_fine node c.0 (get_or node.roles port Unknown) f c.1

-- the rule of a chosen colour, by whether it comes at the first step, from a merged forest, and too high
abbrev chosen_rule : Bool → Bool → Bool → Option ℕ
chosen_rule first merged high =
    if first then Some FOREST_RANGE else if merged then (if high then Some COLOUR_RANGE else None) else Some FOREST_RANGE

chosen_test : (limit c : ℕ) (first merged high : Bool) → nat_lt limit c ≡ high → chosen_rule first merged high ≡ None → c ≤ limit
chosen_test limit c false true false e h = grind (arith, nat_tests)
chosen_test limit c false true true e h = absurd (cc)
chosen_test limit c false false high e h = absurd (cc)
chosen_test limit c true merged high e h = absurd (cc)

chosen_fine : (node : Node) (f s : ℕ) (heard : List ℕ) (role : Role) (c : ℕ) → port_rule node heard (Merge f s) role (Some (Chosen c)) ≡ None →
    c ≤ span node.sizes
chosen_fine node f s heard Unknown c h = absurd (cc)
chosen_fine node f s heard (Up g) c h = chosen_test (span node.sizes) c (s == 0) (is_merged f (Up g)) (nat_lt (span node.sizes) c) refl h
chosen_fine node f s heard (Down g) c h = chosen_test (span node.sizes) c (s == 0) (is_merged f (Down g)) (nat_lt (span node.sizes) c) refl h

-- in the merging a colour that came as chosen is no greater than the span
pub chosen-within : (node : Node) (f s : ℕ) (slots : List (Option Payload)) → length slots ≡ ports node → first_refusal node (Merge f s) slots ≡ None →
    (port c : ℕ) → at_port slots port ≡ Some (Chosen c) → c ≤ span node.sizes
chosen-within node f s slots size none port c here =
    let r = came node (Merge f s) slots size none port (Chosen c) here in
    chosen_fine node f s r.0 (get_or node.roles port Unknown) c r.1
