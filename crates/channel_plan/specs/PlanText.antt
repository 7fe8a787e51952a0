-- The text of a channel plan.
use Rattle.std.specs.Prelude.{ℕ, ◌+◌, List, [], ◌∷◌, ◌++◌, codes}
use Rattle.number_rows.specs.Row.{row}

-- a row for each vertex, from this one on: the vertex, and its channel, which is its colour plus one
abbrev pub rows_from : ℕ → List ℕ → List ℕ
rows_from v [] = []
rows_from v (colour ∷ colours) = row (v ∷ (colour + 1) ∷ []) ++ rows_from (v + 1) colours

-- `plan`, and a row for each vertex, from vertex 1 on
abbrev pub plan_of : List ℕ → List ℕ
plan_of colours = codes "plan" ++ 10 ∷ rows_from 1 colours
