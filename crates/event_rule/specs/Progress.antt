-- The laws of progress, on a network.
use Rattle.std.specs.Prelude.{◌≡◌, ◌⊎◌, ◌↔◌, ℕ, ◌<◌, ◌≤◌, ◌^◌, List, ◌++◌, length, Ok}
use Rattle.interference.specs.Net.{Net, IsVertex}
use Rattle.node_api.specs.Program.{Program, last_pulse_on}
use Rattle.alpha_laws.specs.Counts.{events_made, events_of_run}
use Rattle.alpha_laws.specs.Progress.{HasEnded}
use Rattle.event_rule.specs.declared.event.Event.{Event}
use Rattle.event_rule.specs.State.{State, start, node_of, link_at, link_to, sent_of}
use Rattle.event_rule.specs.Step.{run}
use Rattle.event_rule.specs.Simulation.{IsReachable}
use Rattle.event_rule.specs.Endings.{IsRunWithin, IsTerminal, IsWholeState, PossibleWithin}

-- In every state that is reached an event is possible, or the state is whole; over links of any capacity but none.
abbrev pub NoDeadlock : {S M E : Type 0} → Program S M E → Net → Type 0
NoDeadlock {S} {M} program net =
    (state : State S M) → IsReachable program net state → (capacity : ℕ) → 0 < capacity
    → ((event : Event) × PossibleWithin capacity program net state event) ⊎ IsWholeState program net state

-- In a whole state no event is possible.
abbrev pub WholeStatesAreTerminal : {S M E : Type 0} → Program S M E → Net → Type 0
WholeStatesAreTerminal {S} {M} program net =
    (state : State S M) → IsReachable program net state → IsWholeState program net state → IsTerminal program net state

-- how many events a state shows: the pulses of its nodes, the wires put on its links, and those taken from them
abbrev pub events_in : {S M E : Type 0} → Program S M E → Net → State S M → ℕ
events_in program net state =
    events_made net (node_of program net state) (λ v i. sent_of (link_at state.links v i))
    (λ v i. (link_to net state.links v i).taken)

-- A list of events has as many events as its state shows.
abbrev pub RunsAreCounted : {S M E : Type 0} → Program S M E → Net → Type 0
RunsAreCounted {S} {M} program net =
    (events : List Event) (state : State S M) → run program net events ≡ Ok state
    → length events ≡ events_in program net state

-- It has at most as many as a whole run, and as many exactly if its state is whole.
abbrev pub RunsAreBounded : {S M E : Type 0} → Program S M E → Net → Type 0
RunsAreBounded {S} {M} program net =
    (events : List Event) (state : State S M) → run program net events ≡ Ok state
    → (length events ≤ events_of_run program net)
    × (IsWholeState program net state ↔ (length events ≡ events_of_run program net))

-- It can be continued to a whole state, over links of any capacity but none.
abbrev pub RunsCanBeCompleted : {S M E : Type 0} → Program S M E → Net → Type 0
RunsCanBeCompleted {S} {M} program net =
    (events : List Event) (state : State S M) → run program net events ≡ Ok state → (capacity : ℕ) → 0 < capacity
    → (more : List Event) × (last : State S M) × (run program net (events ++ more) ≡ Ok last)
    × IsRunWithin capacity program net state more last × IsWholeState program net last

-- It is a list over links of any capacity above 1, too.
abbrev pub RunsHaveRoom : {S M E : Type 0} → Program S M E → Net → Type 0
RunsHaveRoom {S} {M} program net =
    (events : List Event) (state : State S M) → run program net events ≡ Ok state → (capacity : ℕ) → 2 ≤ capacity
    → IsRunWithin capacity program net (start program net) events state

-- A whole run has fewer than 2^60 events on a network within the limits, if its last pulse has 32 binary digits, as
-- that of every program has.
abbrev pub RunsAreShort : {S M E : Type 0} → Program S M E → Net → Type 0
RunsAreShort program net = last_pulse_on program net < 2 ^ 32 → events_of_run program net < 2 ^ 60

-- Where a list of events leads after which no event is possible.
pub record IsEnd {S M E : Type 0} (program : Program S M E) (net : Net) (events : List Event) (state : State S M)
    : Type 0 where
  pub whole : IsWholeState program net state
  pub many : length events ≡ events_of_run program net
  -- Each node is in the last state of the synchronous run, with nothing left at its ports; the list of each link is
  -- complete.
  pub ended : HasEnded program net (node_of program net state) (λ v i. sent_of (link_at state.links v i))

abbrev pub MaximalRunsEnd : {S M E : Type 0} → Program S M E → Net → Type 0
MaximalRunsEnd {S} {M} program net =
    (events : List Event) (state : State S M) → run program net events ≡ Ok state → IsTerminal program net state
    → IsEnd program net events state

-- So any two of these lists are equally long, and each node is the same after both.
abbrev pub MaximalRunsAgree : {S M E : Type 0} → Program S M E → Net → Type 0
MaximalRunsAgree {S} {M} program net =
    (events others : List Event) (state other : State S M)
    → run program net events ≡ Ok state → run program net others ≡ Ok other
    → IsTerminal program net state → IsTerminal program net other
    → (length events ≡ length others)
    × ((v : ℕ) → IsVertex net v → node_of program net state v ≡ node_of program net other v)
