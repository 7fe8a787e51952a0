-- Rows in which some things have crossed, link after link.
use Rattle.std.specs.Prelude.{◌≡◌, ℕ, ◌+◌, ◌-◌, ◌*◌, ◌<◌, ◌≤◌, List, length, slice_set}
use Rattle.interference.specs.Net.{Net, IsVertex, degree_of, neighbour_of, back_port_of}
use Rattle.interference.specs.declared.limits.TheConstants.{MAX_DEGREE}
use Rattle.port_rows.specs.Rows.{HasShape, row_at, thing_at}

-- the place of a link in the order in which they are crossed: by its lower vertex, and by the port there
abbrev pub place : ℕ → ℕ → ℕ
place v i = v * (MAX_DEGREE + 1) + i

module _ {A : Type 0} where
  -- the rows, with this one for a vertex
  abbrev pub with_row : List (List A) → ℕ → List A → List (List A)
  with_row rows v row = slice_set rows (v - 1) row

  -- The links before a place have been crossed: what is at an end of one is what was at its other end. The others not.
  pub record IsCrossedTo (net : Net) (rows : List (List A)) (to : ℕ) (now : List (List A)) : Type 0 where
    pub shape : HasShape net now
    pub up : (v i : ℕ) → IsVertex net v → i < degree_of net v → v < neighbour_of net v i → place v i < to
        → thing_at now v i ≡ thing_at rows (neighbour_of net v i) (back_port_of net v i)
    pub down : (v i : ℕ) → IsVertex net v → i < degree_of net v → neighbour_of net v i < v
        → place (neighbour_of net v i) (back_port_of net v i) < to
        → thing_at now v i ≡ thing_at rows (neighbour_of net v i) (back_port_of net v i)
    pub later_up : (v i : ℕ) → IsVertex net v → i < degree_of net v → v < neighbour_of net v i → to ≤ place v i
        → thing_at now v i ≡ thing_at rows v i
    pub later_down : (v i : ℕ) → IsVertex net v → i < degree_of net v → neighbour_of net v i < v
        → to ≤ place (neighbour_of net v i) (back_port_of net v i) → thing_at now v i ≡ thing_at rows v i

  -- Two things have changed places, in rows of their own.
  pub record IsSwapped (old : List (List A)) (v i w j : ℕ) (new : List (List A)) : Type 0 where
    pub count : length new ≡ length old
    pub long : (u : ℕ) → length (row_at new u) ≡ length (row_at old u)
    pub here : thing_at new v i ≡ thing_at old w j
    pub there : thing_at new w j ≡ thing_at old v i
    pub others : (u k : ℕ) → 1 ≤ u → (u ≡ v → k ≡ i → ⊥) → (u ≡ w → k ≡ j → ⊥) → thing_at new u k ≡ thing_at old u k
