-- A replay of stamped entries, and one that ends whole.
use Rattle.std.specs.Prelude.{◌≡◌, ℕ, ◌<◌, IsTrue, List, []}
use Rattle.interference.specs.Net.{Net, IsVertex, degree_of}
use Rattle.node_api.specs.Program.{Program, last_pulse_on}
use Rattle.alpha_core.specs.View.{is_drained}
use Rattle.entries.specs.declared.rows.StampedRow.{StampedRow}
use Rattle.stamps.specs.Merged.{AreOrdered, AreStampedRows, rows_in}
use Rattle.event_rule.specs.State.{State, link_at, node_of}
use Rattle.event_rule.specs.Replays.{IsReplay}

-- no link out of v holds a wire
abbrev pub HoldsNothing : {S M : Type 0} → Net → State S M → ℕ → Type 0
HoldsNothing net state v = (i : ℕ) → i < degree_of net v → (link_at state.links v i).held ≡ []

-- v is drained, and no link out of it holds a wire
abbrev pub IsDone : {S M E : Type 0} → Program S M E → Net → State S M → ℕ → Type 0
IsDone program net state v =
    IsTrue (is_drained (last_pulse_on program net) (node_of program net state v).view) × HoldsNothing net state v

-- Every node is drained, and every link is empty.
abbrev pub IsWhole : {S M E : Type 0} → Program S M E → Net → State S M → Type 0
IsWhole program net state = (v : ℕ) → IsVertex net v → IsDone program net state v

-- The rows are a replay that leads to a state. They are in the order of their stamps, and each has the stamp that the
-- counter of its node gives it.
pub record IsStampedReplay {S M E : Type 0} (program : Program S M E) (net : Net) (rows : List (StampedRow M))
    (last : State S M) : Type 0 where
  pub replay : IsReplay program net (rows_in rows) last
  pub ordered : AreOrdered rows
  pub stamped : AreStampedRows rows

-- That state is whole.
pub record IsWholeReplay {S M E : Type 0} (program : Program S M E) (net : Net) (rows : List (StampedRow M))
    (last : State S M) : Type 0 where
  pub replay : IsStampedReplay program net rows last
  pub whole : IsWhole program net last
