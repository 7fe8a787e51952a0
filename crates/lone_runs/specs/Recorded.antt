-- The rows that a run writes down, in the order of their stamps.
use Rattle.std.specs.Prelude.{List}
use Rattle.interference.specs.Net.{Net}
use Rattle.node_api.specs.Program.{Program}
use Rattle.entries.specs.declared.rows.StampedRow.{StampedRow}
use Rattle.event_rule.specs.State.{NetView, State}
use Rattle.event_rule.specs.Whole.{IsStampedReplay, IsWholeReplay}
use Rattle.stamps.specs.Table.{IsTableOf}
use Rattle.stamps.specs.declared.table.StampTable.{StampTable}

-- The rows lead to the state, each with the stamp that those before it give it, in order; and the table is theirs.
pub record IsRecorded {S M E : Type 0} (program : Program S M E) (at : NetView S M) (rows : List (StampedRow M))
    (table : StampTable) : Type 0 where
  pub replay : IsStampedReplay program at.net rows at.state
  pub table_is : IsTableOf rows table

-- The rows are a whole replay.
abbrev pub AreWhole : {S M E : Type 0} → Program S M E → Net → List (StampedRow M) → Type 0
AreWhole {S} {M} program net rows = (last : State S M) × IsWholeReplay program net rows last
