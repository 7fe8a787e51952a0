-- How great the stamps of a replay can be.
use Rattle.std.specs.Prelude.{◌≤◌, All, List, length}
use Rattle.interference.specs.Net.{Net}
use Rattle.node_api.specs.Program.{Program}
use Rattle.event_rule.specs.State.{State}
use Rattle.entries.specs.declared.rows.StampedRow.{StampedRow}
use Rattle.event_rule.specs.Whole.{IsStampedReplay}

-- No stamp of a stamped replay passes the number of its entries.
abbrev pub StampsAreCounted : {S M E : Type 0} → Program S M E → Net → Type 0
StampsAreCounted {S} {M} program net =
    (rows : List (StampedRow M)) (last : State S M) → IsStampedReplay program net rows last
    → All (λ row. row.stamp ≤ length rows) rows

-- Nor does one pass the number of the events that write down these entries.
abbrev pub EventsBoundStamps : {S M E : Type 0} → Program S M E → Net → Type 0
EventsBoundStamps {S} {M} program net =
    (rows : List (StampedRow M)) (last : State S M) → (is : IsStampedReplay program net rows last)
    → All (λ row. row.stamp ≤ length is.replay.events) rows
