-- How great the stamps of a run can be.
use Rattle.std.specs.Prelude.{◌^◌, ◌<◌, ◌≤◌, All, List}
use Rattle.interference.specs.Net.{Net}
use Rattle.node_api.specs.Program.{Program, last_pulse_on}
use Rattle.alpha_laws.specs.Counts.{events_of_run}
use Rattle.event_rule.specs.State.{State}
use Rattle.event_rule.specs.Whole.{IsStampedReplay}
use Rattle.entries.specs.declared.rows.StampedRow.{StampedRow}

-- No stamp of a stamped replay passes the number of events that a whole run has.
abbrev pub StampsAreBounded : {S M E : Type 0} → Program S M E → Net → Type 0
StampsAreBounded {S} {M} program net =
    (rows : List (StampedRow M)) (last : State S M) → IsStampedReplay program net rows last
    → All (λ row. row.stamp ≤ events_of_run program net) rows

-- No stamp of a stamped replay comes to 2^64, so none is too great for a counter.
abbrev pub StampsFit : {S M E : Type 0} → Program S M E → Net → Type 0
StampsFit {S} {M} program net =
    (rows : List (StampedRow M)) (last : State S M) → IsStampedReplay program net rows last
    → All (λ row. row.stamp < 2 ^ 64) rows

-- So it is if the last pulse has 32 binary digits, as that of every program has.
abbrev pub ShortRunsFit : {S M E : Type 0} → Program S M E → Net → Type 0
ShortRunsFit program net = last_pulse_on program net < 2 ^ 32 → StampsFit program net
