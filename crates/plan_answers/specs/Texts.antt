-- The texts that commands write.
use Rattle.std.specs.Prelude.{ℕ, List, [], ◌∷◌, ◌++◌, codes, flat_map, map}
use Rattle.number_rows.specs.Row.{row}
use Rattle.interference.specs.Net.{Net, count_of, forest_count_of, vertices}
use Rattle.forests.specs.Forests.{triples}
use Rattle.channel_plan.specs.PlanText.{plan_of}
use Rattle.colour_laws.specs.Colours.{colours}

-- the line of an edge: its forest, the child, the parent
abbrev pub triple_row : ℕ × ℕ × ℕ → List ℕ
triple_row triple = row (triple.0 ∷ triple.1 ∷ triple.2 ∷ [])

-- `forests N U`, and a line for each edge of each forest, in their order
abbrev pub forests_text : Net → List ℕ
forests_text net =
    codes "forests " ++ row (count_of net ∷ forest_count_of net ∷ []) ++ flat_map triple_row (triples net)

-- the plan of the colours of a network, of which vertex 1 comes first
abbrev pub colours_text : Net → List ℕ
colours_text net = plan_of (map (colours net) (vertices net))
