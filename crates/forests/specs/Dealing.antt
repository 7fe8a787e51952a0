-- How the edges of a vertex are dealt to the forests.
use Rattle.std.specs.Prelude.{ℕ, List, [], ◌∷◌, Option, Some, None, map, slice_index_or}
use Rattle.std.specs.declared.vec.Vec.{Vec}
use Rattle.std.specs.declared.alloc.Global.{Global}
use Rattle.std.specs.List.{slice_get}
use Rattle.interference.specs.Net.{Net, id_of}

-- a vertex behind its identifier
abbrev pub with_id : Net → ℕ → ℕ × ℕ
with_id net v = (id_of net v, v)

-- the edge of forest f from v to a parent, where there is one
abbrev pub edge_to : ℕ → ℕ → Option (ℕ × ℕ) → List (ℕ × ℕ × ℕ)
edge_to f v None = []
edge_to f v (Some parent) = (f, v, parent.1) ∷ []

-- the edge of forest f from v, whose parents are given behind their identifiers
abbrev pub edge_at : ℕ → ℕ → List (ℕ × ℕ) → List (ℕ × ℕ × ℕ)
edge_at f v parents = edge_to f v (slice_get parents f)

-- the edges of each forest so far
abbrev pub edges_of : List (Vec (ℕ × ℕ × ℕ) Global) → List (List (ℕ × ℕ × ℕ))
edges_of forests = map (λ edges. edges.items) forests

-- the edges of forest f so far
abbrev pub edges_in : List (Vec (ℕ × ℕ × ℕ) Global) → ℕ → List (ℕ × ℕ × ℕ)
edges_in forests f = slice_index_or (edges_of forests) f []
