-- What a recorder wrote down, and what it does.
use Rattle.std.specs.Prelude.{⊤, ◌≡◌, ◌<◌, ℕ, Bool, true, false, List, [], ◌∷◌, ◌++◌, if◌then◌else◌}
use Rattle.entries.specs.declared.entry.Entry.{Entry}
use Rattle.entries.specs.declared.recorder.Recorder.{Recorder}
use Rattle.entries.specs.declared.recorder.Recorder.TheVariants.{Off, On}
use Rattle.entries.specs.declared.rows.StampedEntry.{StampedEntry}
use Rattle.entries.specs.Rows.{stamped_entry}

module _ {M : Type 0} where
  -- entries are written down
  abbrev pub is_on : Recorder M → Bool
  is_on Off = false
  is_on (On entries) = true

  -- the entries that were written down, each with its stamp
  abbrev pub entries_by : Recorder M → List (StampedEntry M)
  entries_by Off = []
  entries_by (On entries) = entries.items

  -- there is room for one more, if entries are written down
  abbrev pub HasRoom : Recorder M → Type 0
  HasRoom Off = ⊤
  HasRoom (On entries) = 0 < entries.room

  -- It has the same entries, whatever room there is.
  pub record HasSame (old new : Recorder M) : Type 0 where
    pub on : is_on new ≡ is_on old
    pub entries : entries_by new ≡ entries_by old

  -- It has one entry more with its stamp, if entries are written down.
  pub record HasWritten (stamp : ℕ) (entry : Entry M) (old new : Recorder M) : Type 0 where
    pub on : is_on new ≡ is_on old
    pub entries : entries_by new
        ≡ (if is_on old then entries_by old ++ (stamped_entry stamp entry ∷ []) else entries_by old)
