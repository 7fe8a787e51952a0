-- Ticks of a run that is written down: which stamps its next events get.
use Rattle.std.specs.Prelude.{◌≡◌, ℕ, suc, max, ◌+◌, ◌<◌, ◌≤◌, List, length, All, slice_index_or}
use Rattle.interference.specs.Net.{Net, IsVertex, degree_of, neighbour_of}
use Rattle.node_api.specs.Program.{Program}
use Rattle.wires.specs.StampedWires.{stamps_of}
use Rattle.entries.specs.declared.entry.Entry.TheVariants as entry
use Rattle.entries.specs.declared.rows.StampedRow.{StampedRow}
use Rattle.entries.specs.Rows.{stamped_row}
use Rattle.event_rule.specs.declared.event.Event.{Event}
use Rattle.event_rule.specs.declared.event.Event.TheVariants.{Pulse, Put, Take}
use Rattle.event_rule.specs.State.{NetView, State, link_at}
use Rattle.event_rule.specs.Events.{Possible}
use Rattle.event_rule.specs.Commute.{vertex_of}
use Rattle.stamps.specs.Stamps.{counter_of, taken_in}
use Rattle.stamps.specs.Merged.{Precedes, entries_at, puts_at, takes_at}

-- the stamp that an event gets behind these rows: that of its node's counter
abbrev pub event_stamp : {M : Type 0} → Net → List (StampedRow M) → Event → ℕ
event_stamp net rows (Pulse v) = suc (counter_of (entries_at rows v))
event_stamp net rows (Put v i) = suc (counter_of (entries_at rows v))
event_stamp net rows (Take v i) =
    suc (max (counter_of (entries_at rows v))
    (slice_index_or (stamps_of (puts_at rows (neighbour_of net v i) v))
    (length (taken_in (entries_at rows v) (neighbour_of net v i))) 0))

-- each link holds as many wires as the rows put on it and didn't take
abbrev pub AreHeld : {S M : Type 0} → Net → State S M → List (StampedRow M) → Type 0
AreHeld net state rows =
    (v i : ℕ) → IsVertex net v → i < degree_of net v
    → length (puts_at rows v (neighbour_of net v i))
    ≡ length (takes_at rows (neighbour_of net v i) v) + length (link_at state.links v i).held

-- if the event is possible, its stamp is above s
abbrev pub IsAbove : {S M E : Type 0} → Program S M E → Net → State S M → List (StampedRow M) → ℕ → Event → Type 0
IsAbove program net state rows s event = Possible program net state event → s < event_stamp net rows event

-- Before tick s: all rows have lesser stamps, and no event that is possible does.
pub record IsBeforeTick {S M E : Type 0} (program : Program S M E) (net : Net) (state : State S M)
    (rows : List (StampedRow M)) (s : ℕ) : Type 0 where
  pub held : AreHeld net state rows
  pub first : 0 < s
  pub earlier : All (λ r. r.stamp < s) rows
  pub late : (event : Event) → Possible program net state event → s ≤ event_stamp net rows event

-- In the turn of v in tick s: no row comes after it, no event that is possible has a stamp below s, and those of the
-- vertices before v have stamps above s.
pub record IsInTurn {S M E : Type 0} (program : Program S M E) (net : Net) (state : State S M)
    (rows : List (StampedRow M)) (s v : ℕ) : Type 0 where
  pub held : AreHeld net state rows
  pub below : All (λ r. Precedes r (stamped_row s v (entry.Pulse 0))) rows
  pub late : (event : Event) → Possible program net state event → s ≤ event_stamp net rows event
  pub passed : (event : Event) → vertex_of event < v → IsAbove program net state rows s event

-- What an attempt of an event in tick s leaves: it isn't possible with this stamp any more, nor is another event of its
-- node that wasn't before.
pub record IsPassed {S M E : Type 0} (program : Program S M E) (old : NetView S M) (before : List (StampedRow M))
    (new : NetView S M) (rows : List (StampedRow M)) (s : ℕ) (event : Event) : Type 0 where
  pub here : IsAbove program new.net new.state rows s event
  pub others : (other : Event) → vertex_of other ≡ vertex_of event → IsAbove program old.net old.state before s other
      → IsAbove program new.net new.state rows s other
