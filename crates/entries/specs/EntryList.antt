-- What contracts see of a node's entries.
use Rattle.std.specs.Prelude.{ℕ, List}
use Rattle.entries.specs.declared.rows.StampedEntry.{StampedEntry}

-- The entries in order, each with its stamp, and how many more have room, whatever their wires.
pub record EntryList (M : Type 0) : Type 0 where
  pub items : List (StampedEntry M)
  pub room : ℕ
