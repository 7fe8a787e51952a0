-- The laws of every list of entries, on a network.
use Rattle.std.specs.Prelude.{◌≡◌, List, map}
use Rattle.interference.specs.Net.{Net}
use Rattle.node_api.specs.Program.{Program}
use Rattle.event_rule.specs.State.{State}
use Rattle.net_core.specs.declared.refused.ReplayRefused.{ReplayRefused}
use Rattle.entries.specs.declared.rows.Row.{Row}
use Rattle.event_rule.specs.Rows.{event_of}
use Rattle.event_rule.specs.Replays.{IsReplay}
use Rattle.net_core.specs.Replays.{Stops}

pub record ReplaysAreExact {S M E : Type 0} (program : Program S M E) (net : Net) : Type 0 where
  -- the events of a replay are those that its entries are of
  pub events : (rows : List (Row M)) (last : State S M) → (is : IsReplay program net rows last)
      → is.events ≡ map (λ row. event_of net row) rows
  -- it leads to one state alone
  pub one_state : (rows : List (Row M)) (last other : State S M) → IsReplay program net rows last
      → IsReplay program net rows other → last ≡ other
  -- entries that stop somewhere aren't a replay
  pub not_both : (rows : List (Row M)) (last : State S M) (refused : ReplayRefused)
      → IsReplay program net rows last → Stops program net rows refused → ⊥
  -- and they stop in one place and for one reason alone
  pub one_reason : (rows : List (Row M)) (refused other : ReplayRefused)
      → Stops program net rows refused → Stops program net rows other → refused ≡ other
