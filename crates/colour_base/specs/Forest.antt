-- A rooted forest is the parent of each vertex, or none; a colouring is a number at each vertex.
use Rattle.std.specs.Prelude.{◌≡◌, ◌≢◌, ℕ, ◌≤◌, Option, Some, None}

-- the colour of a vertex, if there is one
abbrev pub colour_of : (ℕ → ℕ) → Option ℕ → Option ℕ
colour_of c None = None
colour_of c (Some w) = Some (c w)

-- the colour of the parent of v, or none at a root
abbrev pub at_parent : (ℕ → Option ℕ) → (ℕ → ℕ) → ℕ → Option ℕ
at_parent parents c v = colour_of c (parents v)

-- a colouring is proper if no vertex has the colour of its parent
abbrev pub IsProper : (ℕ → Option ℕ) → (ℕ → ℕ) → Type 0
IsProper parents c = (v w : ℕ) → parents v ≡ Some w → c v ≢ c w

-- every colour is n at most
abbrev pub IsWithin : ℕ → (ℕ → ℕ) → Type 0
IsWithin n c = (v : ℕ) → c v ≤ n
