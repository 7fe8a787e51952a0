-- The stamped entries of all nodes in one list.
use Rattle.std.specs.Prelude.{◌≡◌, ◌⊎◌, ℕ, ◌-◌, ◌<◌, ◌≤◌, ◌==◌, ◌&&◌, if◌then◌else◌, List, [], ◌∷◌, ◌++◌, map}
use Rattle.std.specs.Prelude.{All, slice_index_or}
use Rattle.wires.specs.declared.stamped.Stamped.{Stamped}
use Rattle.entries.specs.declared.rows.Row.{Row}
use Rattle.entries.specs.declared.rows.StampedEntry.{StampedEntry}
use Rattle.entries.specs.declared.rows.StampedRow.{StampedRow}
use Rattle.entries.specs.Rows.{without_stamp, without_vertex}
use Rattle.wires.specs.StampedWires.{stamps_of}
use Rattle.stamps.specs.Stamps.{next_stamp, put_if, taken_if}

module _ {M : Type 0} where
  -- the rows without their stamps
  abbrev pub rows_in : List (StampedRow M) → List (Row M)
  rows_in rows = map (λ row. without_stamp row) rows

  -- one row may come before another: by the stamp, and then by the vertex
  abbrev pub Precedes : StampedRow M → StampedRow M → Type 0
  Precedes a b = (a.stamp < b.stamp) ⊎ ((a.stamp ≡ b.stamp) × (a.vertex ≤ b.vertex))

  -- The rows are in the order of their stamps, and of their vertices where the stamps are equal.
  abbrev pub AreOrdered : List (StampedRow M) → Type 0
  AreOrdered [] = Unit {0}
  AreOrdered (row ∷ rows) = All (Precedes row) rows × AreOrdered rows

  -- the entries of the node of v, in the order of the rows
  abbrev pub entries_at : List (StampedRow M) → ℕ → List (StampedEntry M)
  entries_at [] v = []
  entries_at (row ∷ rows) v = if row.vertex == v then without_vertex row ∷ entries_at rows v else entries_at rows v

  -- what v put on the link to w, in the order of the rows
  abbrev pub puts_at : List (StampedRow M) → ℕ → ℕ → List (Stamped M)
  puts_at [] v w = []
  puts_at (row ∷ rows) v w =
      put_if (λ to. (row.vertex == v) && (to == w)) row.stamp row.entry ++ puts_at rows v w

  -- what v took from the link of w
  abbrev pub takes_at : List (StampedRow M) → ℕ → ℕ → List (Stamped M)
  takes_at [] v w = []
  takes_at (row ∷ rows) v w =
      taken_if (λ from. (row.vertex == v) && (from == w)) row.stamp row.entry ++ takes_at rows v w

  -- The stamp of a row that comes behind these: that of its node's counter. A wire from w has the stamp of its put
  -- there.
  abbrev pub stamp_behind : List (StampedRow M) → StampedRow M → ℕ
  stamp_behind before row =
      next_stamp (λ w. stamps_of (puts_at before w row.vertex)) (entries_at before row.vertex) row.entry

  -- A row has the stamp of its node's counter behind these rows, and none of them comes after it in the order.
  abbrev pub IsInPlace : List (StampedRow M) → StampedRow M → Type 0
  IsInPlace before row = All (λ r. Precedes r row) before × (row.stamp ≡ stamp_behind before row)

  -- Each row has the stamp that the counter of its node gives it.
  abbrev pub AreStampedRows : List (StampedRow M) → Type 0
  AreStampedRows rows = (before : List (StampedRow M)) (row : StampedRow M) (after : List (StampedRow M))
      → rows ≡ before ++ (row ∷ after) → row.stamp ≡ stamp_behind before row

-- The rows are the entries of the nodes 1 to n, each entry once, in order.
pub record IsMerge {M : Type 0} (n : ℕ) (wrote : ℕ → List (StampedEntry M)) (rows : List (StampedRow M)) : Type 0 where
  pub ordered : AreOrdered rows
  pub vertices : All (λ row. (1 ≤ row.vertex) × (row.vertex ≤ n)) rows
  pub each : (v : ℕ) → (1 ≤ v) × (v ≤ n) → entries_at rows v ≡ wrote v

-- entry v - 1 of the lists is of the node of v
abbrev pub list_of : {M : Type 0} → List (List (StampedEntry M)) → ℕ → List (StampedEntry M)
list_of lists v = slice_index_or lists (v - 1) []
