-- Where entries aren't a replay.
use Rattle.std.specs.Prelude.{◌≡◌, ◌≢◌, ℕ, Some, Ok, Err, List, ◌∷◌, ◌++◌, length}
use Rattle.interference.specs.Net.{Net}
use Rattle.node_api.specs.Program.{Program}
use Rattle.event_rule.specs.declared.refused.StepRefused.TheVariants as step_refused
use Rattle.event_rule.specs.State.{NetView, State}
use Rattle.event_rule.specs.Refusals.{at_index}
use Rattle.event_rule.specs.Step.{step}
use Rattle.net_core.specs.declared.refused.EntryRefused.{EntryRefused}
use Rattle.net_core.specs.declared.refused.EntryRefused.TheVariants.{Step, WrongWire}
use Rattle.net_core.specs.declared.refused.ReplayRefused.{ReplayRefused}
use Rattle.net_core.specs.declared.refused.ReplayRefused.TheVariants as replay_refused
use Rattle.entries.specs.declared.rows.Row.{Row}
use Rattle.event_rule.specs.Rows.{event_of, row_of}
use Rattle.event_rule.specs.Replays.{IsReplay}

-- The event of an entry is possible, writes down just this entry, and leads to the next state.
pub record IsMade {S M E : Type 0} (program : Program S M E) (old : NetView S M) (row : Row M) (new : NetView S M)
    : Type 0 where
  pub net : new.net ≡ old.net
  pub leads : step program old.net old.state (event_of old.net row) ≡ Ok new.state
  pub writes : row_of program old.net old.state (event_of old.net row) ≡ Some row

-- an entry's refusal, with the entry's index in the list
abbrev pub at_entry : ℕ → EntryRefused → ReplayRefused
at_entry k (Step refused) = replay_refused.Run (at_index k refused)
at_entry k WrongWire = replay_refused.WrongWire k

-- why an entry isn't written down in a state: its event isn't possible, or it is, and writes down something else
abbrev pub WhyNot : {S M E : Type 0} → Program S M E → Net → State S M → Row M → EntryRefused → Type 0
WhyNot program net state row (Step reason) = step program net state (event_of net row) ≡ Err reason
WhyNot {S} {M} program net state row WrongWire =
    (next : State S M) × (step program net state (event_of net row) ≡ Ok next)
    × (row_of program net state (event_of net row) ≢ Some row)

-- the same of a call, which may be refused memory
abbrev pub IsRefusedEntry : {S M E : Type 0} → Program S M E → NetView S M → Row M → EntryRefused → Type 0
IsRefusedEntry program old row refused =
    refused ≢ Step step_refused.Memory → WhyNot program old.net old.state row refused

-- The entries before one of them are a replay, and no event writes that one down in the state that they lead to: the
-- refusal says why, and has its index, from 0.
pub record Stops {S M E : Type 0} (program : Program S M E) (net : Net) (rows : List (Row M))
    (refused : ReplayRefused) : Type 0 where
  pub before : List (Row M)
  pub row : Row M
  pub after : List (Row M)
  pub splits : rows ≡ before ++ (row ∷ after)
  pub reached : State S M
  pub is_replay : IsReplay program net before reached
  pub reason : EntryRefused
  pub why : WhyNot program net reached row reason
  pub index : refused ≡ at_entry (length before) reason
