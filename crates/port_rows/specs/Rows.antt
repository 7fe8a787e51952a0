-- Things by vertex and port: entry `v - 1` of the rows has those of vertex v, by port.
use Rattle.std.specs.Prelude.{◌≡◌, ℕ, ◌-◌, ◌<◌, List, [], length, map, slice_get, slice_index_or}
use Rattle.std.specs.Prelude.{Option}
use Rattle.std.specs.declared.alloc.Global.{Global}
use Rattle.std.specs.declared.vec.Vec.{Vec}
use Rattle.interference.specs.Net.{Net, IsVertex, count_of, degree_of, neighbour_of, back_port_of}

module _ {A : Type 0} where
  -- the rows that vectors are
  abbrev pub rows_of : List (Vec A Global) → List (List A)
  rows_of rows = map (λ row. row.items) rows

  abbrev pub row_at : List (List A) → ℕ → List A
  row_at rows v = slice_index_or rows (v - 1) []

  abbrev pub thing_at : List (List A) → ℕ → ℕ → Option A
  thing_at rows v i = slice_get (row_at rows v) i

  -- there is a row for each vertex, with a thing for each port
  pub record HasShape (net : Net) (rows : List (List A)) : Type 0 where
    pub count : length rows ≡ count_of net
    pub row : (v : ℕ) → IsVertex net v → length (row_at rows v) ≡ degree_of net v

  -- each thing stands where the other end of its link is
  pub record AreCrossed (net : Net) (rows crossed : List (List A)) : Type 0 where
    pub shape : HasShape net crossed
    pub at : (v i : ℕ) → IsVertex net v → i < degree_of net v
        → thing_at crossed v i ≡ thing_at rows (neighbour_of net v i) (back_port_of net v i)
