-- How a node chooses its colour when a forest is merged with those before it.
use Rattle.std.specs.Prelude.{◌≡◌, ◌≤◌, ℕ, ◌+◌, ◌/◌, ◌%◌, ◌==◌, ◌||◌, Bool, false, List, []}
use Rattle.std.specs.Prelude.{◌∷◌, Option, Some, if◌then◌else◌, slice_index}
use Rattle.std.specs.Ordering.{nat_cmp}
use Rattle.std.specs.FinSet.{FinSet, empty, insert, contains}
use Rattle.node_api.specs.Boxes.{at_port}
use Rattle.node_api.specs.Program.{span}
use Rattle.forest_merge.specs.Free.{least_free_colour}
use Rattle.colour_rules.specs.declared.payload.Payload.{Payload}
use Rattle.colour_rules.specs.declared.payload.Payload.TheVariants.{Chosen}
use Rattle.colour_rules.specs.Node.{Node}

-- the colours that came as chosen put into a set
abbrev pub with_chosen : FinSet nat_cmp → List (Option Payload) → FinSet nat_cmp
with_chosen set [] = set
with_chosen set (Some (Chosen c) ∷ slots) = with_chosen (insert set c) slots
with_chosen set (slot ∷ slots) = with_chosen set slots

-- a node that has put them into its set
abbrev pub with_taken : Node → List (Option Payload) → Node
with_taken node inbox = record node { chosen = with_chosen node.chosen inbox }

-- every colour that came as chosen is n at most
abbrev pub ChosenWithin : ℕ → List (Option Payload) → Type 0
ChosenWithin n slots = (port c : ℕ) → at_port slots port ≡ Some (Chosen c) → c ≤ n

-- a node at a step of the merging once it has heard: the first step of a forest begins with the colour so far
-- and nothing heard
abbrev pub with_heard : Node → ℕ → List (Option Payload) → Node
with_heard node s inbox =
    record node {
      colour_before = if s == 0 then node.merged else node.colour_before;
      chosen = if s == 0 then empty else with_chosen node.chosen inbox;
    }

-- whether a node chooses at step s of forest f: its three-colour and its old colour are the pair of the step
abbrev pub chooses : Node → ℕ → ℕ → Bool
chooses node f s =
    let colours : ℕ = span node.sizes + 1 in
    if slice_index node.colours f == s / colours then node.colour_before == s % colours else false

-- whether a colour is taken for a node: a neighbour before it chose it, or it is barred
abbrev pub is_taken : Node → ℕ → Bool
is_taken node = λ c. contains node.chosen c || contains node.barred c

-- the colour that a node chooses: the least that isn't taken
abbrev pub free_for : Node → ℕ
free_for node = least_free_colour (span node.sizes) (is_taken node)
