-- What rows say of the next one, in a table.
use Rattle.std.specs.Prelude.{◌≡◌, ◌≢◌, ℕ, suc, Bool, ◌&&◌, nat_eq, List, [], ◌∷◌, ◌++◌, length, Option, Some, None}
use Rattle.std.specs.Prelude.{All, slice_index_or}
use Rattle.entries.specs.declared.entry.Entry.TheVariants.{Pulse}
use Rattle.std.specs.HashMap.{get, HashMap}
use Rattle.std.specs.Option.{unwrap_or}
use Rattle.std.specs.declared.vec.Vec.{Vec}
use Rattle.stamps.specs.declared.table.StampTable.{StampTable}
use Rattle.wires.specs.StampedWires.{stamps_of}
use Rattle.stamps.specs.Stamps.{counter_of}
use Rattle.entries.specs.declared.rows.StampedRow.{StampedRow}
use Rattle.entries.specs.Rows.{stamped_row}
use Rattle.stamps.specs.Merged.{Precedes, entries_at, puts_at, takes_at}

-- one link, by two vertices
abbrev pub same_link : ℕ × ℕ → ℕ × ℕ → Bool
same_link a b = nat_eq a.0 b.0 && nat_eq a.1 b.1

-- the items of a list, if there is one
abbrev pub items_of : {A : Type 0} → Option (Vec ℕ A) → List ℕ
items_of None = []
items_of (Some list) = list.items

module _ {S A : Type 0} where
  -- the list of a link, with no items if there is none
  abbrev pub list_in : HashMap (ℕ × ℕ) (Vec ℕ A) S → ℕ × ℕ → List ℕ
  list_in m link = items_of (get same_link m link)

  -- the list of a link has one item more at its end, and each other list is as it was
  pub record IsPushed (old new : HashMap (ℕ × ℕ) (Vec ℕ A) S) (link : ℕ × ℕ) (item : ℕ) : Type 0 where
    pub here : list_in new link ≡ list_in old link ++ (item ∷ [])
    pub others : (q : ℕ × ℕ) → q ≢ link → list_in new q ≡ list_in old q

module _ {S : Type 0} where
  -- the number of a vertex or of a link, or 0
  abbrev pub counter_in : HashMap ℕ ℕ S → ℕ → ℕ
  counter_in m v = unwrap_or (get nat_eq m v) 0

  abbrev pub count_in : HashMap (ℕ × ℕ) ℕ S → ℕ × ℕ → ℕ
  count_in m link = unwrap_or (get same_link m link) 0

  -- the number of a link is one more, and each other is as it was
  pub record IsCounted (old new : HashMap (ℕ × ℕ) ℕ S) (link : ℕ × ℕ) : Type 0 where
    pub here : count_in new link ≡ suc (count_in old link)
    pub others : (q : ℕ × ℕ) → q ≢ link → count_in new q ≡ count_in old q

-- the counter of v
abbrev pub counter_at : StampTable → ℕ → ℕ
counter_at table v = counter_in table.counters v

-- the stamp of the wire that v takes next from w
abbrev pub wire_stamp_at : StampTable → ℕ → ℕ → ℕ
wire_stamp_at table v w = slice_index_or (list_in table.puts (w, v)) (count_in table.takes (v, w)) 0

-- The table of no rows.
pub record IsEmptyTable (table : StampTable) : Type 0 where
  pub counters : (v : ℕ) → counter_at table v ≡ 0
  pub puts : (link : ℕ × ℕ) → list_in table.puts link ≡ []
  pub takes : (link : ℕ × ℕ) → count_in table.takes link ≡ 0
  pub stamp : table.last_stamp ≡ 0
  pub vertex : table.last_vertex ≡ 0

-- The table is that of these rows: the counter of each vertex, of each link the stamps of its puts and how many wires
-- were taken, and a stamp and vertex that none of the rows comes after, and that no row comes before if none comes
-- after it.
pub record IsTableOf {M : Type 0} (rows : List (StampedRow M)) (table : StampTable) : Type 0 where
  pub counters : (v : ℕ) → counter_at table v ≡ counter_of (entries_at rows v)
  pub puts : (v w : ℕ) → list_in table.puts (v, w) ≡ stamps_of (puts_at rows v w)
  pub takes : (v w : ℕ) → count_in table.takes (v, w) ≡ length (takes_at rows v w)
  pub below : All (λ r. Precedes r (stamped_row table.last_stamp table.last_vertex (Pulse 0))) rows
  pub least : (row : StampedRow M) → All (λ r. Precedes r row) rows
      → Precedes (stamped_row table.last_stamp table.last_vertex (Pulse 0)) row
