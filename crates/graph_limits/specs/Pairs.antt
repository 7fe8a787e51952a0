-- Pairs of vertices, their order, and the limits of a graph.
use Rattle.std.specs.Prelude.{ℕ, Bool, Option, Some, None, List, ◌<◌, ◌≤◌, ◌==◌, length, All, Contains, count_by}
use Rattle.std.specs.Ordering.{nat_cmp, ordering_then, eq_by_cmp}
use Rattle.std.specs.declared.cmp.Ordering.{Ordering}
use Rattle.graph_limits.specs.declared.limits.TheConstants.{MAX_NODES, MAX_EDGES, MAX_CHANNEL, MAX_BARS}

-- pairs in order: by the first vertex, then by the second
abbrev pub pair_cmp : ℕ × ℕ → ℕ × ℕ → Ordering
pair_cmp p q = ordering_then (nat_cmp p.0 q.0) (nat_cmp p.1 q.1)

abbrev pub same_pair : ℕ × ℕ → ℕ × ℕ → Bool
same_pair = eq_by_cmp pair_cmp

-- both are vertices, from 1, and the smaller one comes first
abbrev pub FitsIn : Option ℕ → ℕ × ℕ → Type 0
FitsIn None pair = ⊥
FitsIn (Some nodes) pair = (0 < pair.0) × (pair.0 < pair.1) × (pair.1 ≤ nodes)

-- a vertex is from 1 to the number of vertices
abbrev pub IsVertexOf : Option ℕ → ℕ → Type 0
IsVertexOf None v = ⊥
IsVertexOf (Some nodes) v = (0 < v) × (v ≤ nodes)

-- identifiers are of vertices
abbrev pub AreVertices : ℕ → List (ℕ × ℕ) → Type 0
AreVertices nodes ids = (pair : ℕ × ℕ) → Contains ids pair → IsVertexOf (Some nodes) pair.0

-- a bar is of a vertex, and its channel from 1 to the greatest
abbrev pub IsBarOf : Option ℕ → ℕ × ℕ → Type 0
IsBarOf nodes bar = IsVertexOf nodes bar.0 × (0 < bar.1) × (bar.1 ≤ MAX_CHANNEL)

-- whether a bar is one of a vertex
abbrev pub is_bar_at : ℕ → ℕ × ℕ → Bool
is_bar_at v bar = bar.0 == v

-- how many of the bars a vertex has
abbrev pub bars_at : List (ℕ × ℕ) → ℕ → ℕ
bars_at bars v = count_by (is_bar_at v) bars

-- bars within the limits
pub record AreBars (nodes : ℕ) (bars : List (ℕ × ℕ)) : Type 0 where
  pub bars_fit : All (IsBarOf (Some nodes)) bars
  pub few : (v : ℕ) → bars_at bars v ≤ MAX_BARS

-- a graph within the limits
pub record IsWithinLimits (nodes : ℕ) (edges : List (ℕ × ℕ)) : Type 0 where
  pub nodes_fit : nodes ≤ MAX_NODES
  pub edges_few : length edges ≤ MAX_EDGES
  pub edges_fit : (pair : ℕ × ℕ) → Contains edges pair → FitsIn (Some nodes) pair
