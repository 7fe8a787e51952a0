-- Why a list of stamped entries isn't a replay that ends whole.
use Rattle.std.specs.Prelude.{◌≡◌, ℕ, List, ◌∷◌, ◌++◌, length, Ok, Some}
use Rattle.interference.specs.Net.{Net}
use Rattle.node_api.specs.Program.{Program}
use Rattle.event_rule.specs.State.{State}
use Rattle.event_rule.specs.Step.{step}
use Rattle.net_core.specs.declared.refused.EntryRefused.{EntryRefused}
use Rattle.net_core.specs.declared.refused.ReplayRefused.{ReplayRefused}
use Rattle.net_core.specs.declared.refused.WholeRefused.{WholeRefused}
use Rattle.net_core.specs.declared.refused.WholeRefused.TheVariants.{Replay, WrongStamp, NotWhole}
use Rattle.net_core.specs.Replays.{WhyNot, at_entry}
use Rattle.event_rule.specs.Rows.{event_of, row_of}
use Rattle.event_rule.specs.Whole.{IsStampedReplay, IsWhole, IsWholeReplay}
use Rattle.entries.specs.Rows.{without_stamp}
use Rattle.entries.specs.declared.rows.StampedRow.{StampedRow}
use Rattle.stamps.specs.Merged.{IsInPlace}

-- the rows before one of them are a stamped replay
pub record ReachesRow {S M E : Type 0} (program : Program S M E) (net : Net) (rows : List (StampedRow M)) : Type 0 where
  pub before : List (StampedRow M)
  pub row : StampedRow M
  pub after : List (StampedRow M)
  pub splits : rows ≡ before ++ (row ∷ after)
  pub reached : State S M
  pub is_replay : IsStampedReplay program net before reached

-- No event writes that row down where it stands: why, with its index, from 0.
pub record StopsAtEntry {S M E : Type 0} (program : Program S M E) (net : Net) (rows : List (StampedRow M))
    (refused : ReplayRefused) : Type 0 where
  pub at : ReachesRow program net rows
  pub reason : EntryRefused
  pub why : WhyNot program net at.reached (without_stamp at.row) reason
  pub index : refused ≡ at_entry (length at.before) reason

-- Its event is possible and writes down just this entry, but the row has another stamp, or comes too late.
pub record StopsAtStamp {S M E : Type 0} (program : Program S M E) (net : Net) (rows : List (StampedRow M)) (i : ℕ)
    : Type 0 where
  pub at : ReachesRow program net rows
  pub next : State S M
  pub leads : step program net at.reached (event_of net (without_stamp at.row)) ≡ Ok next
  pub writes : row_of program net at.reached (event_of net (without_stamp at.row)) ≡ Some (without_stamp at.row)
  pub misplaced : IsInPlace at.before at.row → ⊥
  pub index : i ≡ length at.before

-- All rows are a stamped replay, but the state isn't whole.
pub record EndsUnfinished {S M E : Type 0} (program : Program S M E) (net : Net) (rows : List (StampedRow M))
    : Type 0 where
  pub last : State S M
  pub is_replay : IsStampedReplay program net rows last
  pub unfinished : IsWhole program net last → ⊥

-- Why the rows aren't a whole replay. Each row is looked at as by `replay`, and then its stamp; at the end the state.
abbrev pub WhyNotWhole : {S M E : Type 0} → Program S M E → Net → List (StampedRow M) → WholeRefused → Type 0
WhyNotWhole program net rows (Replay refused) = StopsAtEntry program net rows refused
WhyNotWhole program net rows (WrongStamp i) = StopsAtStamp program net rows i
WhyNotWhole program net rows NotWhole = EndsUnfinished program net rows

-- The laws of every list of stamped rows, on a network.
pub record WholeReplaysAreExact {S M E : Type 0} (program : Program S M E) (net : Net) : Type 0 where
  -- a whole replay leads to one state alone
  pub one_state : (rows : List (StampedRow M)) (last other : State S M) → IsWholeReplay program net rows last
      → IsWholeReplay program net rows other → last ≡ other
  -- and it is refused nowhere
  pub not_both : (rows : List (StampedRow M)) (last : State S M) (refused : WholeRefused)
      → IsWholeReplay program net rows last → WhyNotWhole program net rows refused → ⊥
  -- and what is none is so in one place and for one reason alone
  pub one_reason : (rows : List (StampedRow M)) (refused other : WholeRefused)
      → WhyNotWhole program net rows refused → WhyNotWhole program net rows other → refused ≡ other
