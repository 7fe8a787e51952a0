-- Entries in lists: each with its stamp, with the vertex of its node, or with both.
use Rattle.std.specs.Prelude.{ℕ, List, [], ◌∷◌, map}
use Rattle.entries.specs.declared.entry.Entry.{Entry}
use Rattle.entries.specs.declared.rows.Row.{Row}
use Rattle.entries.specs.declared.rows.StampedEntry.{StampedEntry}
use Rattle.entries.specs.declared.rows.StampedRow.{StampedRow}

module _ {M : Type 0} where
  -- an entry with a vertex, with a stamp, and with both
  abbrev pub vertex_row : ℕ → Entry M → Row M
  vertex_row v e = record { vertex = v; entry = e }

  abbrev pub stamped_entry : ℕ → Entry M → StampedEntry M
  stamped_entry s e = record { stamp = s; entry = e }

  abbrev pub stamped_row : ℕ → ℕ → Entry M → StampedRow M
  stamped_row s v e = record { stamp = s; vertex = v; entry = e }

  -- the entry and the vertex alone, the entry and the stamp alone
  abbrev pub without_stamp : StampedRow M → Row M
  without_stamp row = vertex_row row.vertex row.entry

  abbrev pub without_vertex : StampedRow M → StampedEntry M
  without_vertex row = stamped_entry row.stamp row.entry

  -- the entries without their stamps
  abbrev pub bare_of : List (StampedEntry M) → List (Entry M)
  bare_of entries = map (λ e. e.entry) entries

  -- entries with their stamps, from two lists
  abbrev pub stamp_each : List ℕ → List (Entry M) → List (StampedEntry M)
  stamp_each [] entries = []
  stamp_each (s ∷ stamps) [] = []
  stamp_each (s ∷ stamps) (e ∷ entries) = stamped_entry s e ∷ stamp_each stamps entries
