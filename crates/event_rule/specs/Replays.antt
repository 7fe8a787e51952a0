-- What a replay of entries is.
use Rattle.std.specs.Prelude.{◌≡◌, Some, Ok, List, map}
use Rattle.interference.specs.Net.{Net}
use Rattle.node_api.specs.Program.{Program}
use Rattle.entries.specs.declared.rows.Row.{Row}
use Rattle.event_rule.specs.declared.event.Event.{Event}
use Rattle.event_rule.specs.State.{State}
use Rattle.event_rule.specs.Step.{run}
use Rattle.event_rule.specs.Rows.{rows_of}

-- Entries are a replay that leads to a state: the events of some run that leads there write down just these.
pub record IsReplay {S M E : Type 0} (program : Program S M E) (net : Net) (rows : List (Row M)) (last : State S M)
    : Type 0 where
  pub events : List Event
  pub is_run : run program net events ≡ Ok last
  pub rows_are : rows_of program net events ≡ map Some rows
