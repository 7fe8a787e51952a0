-- The outcome in which no node has made an event.
use Rattle.std.specs.Prelude.{◌≡◌, ◌↔◌, ℕ, Bool, true, [], map, replicate}
use Rattle.interference.specs.Net.{Net, IsVertex, degree_of, vertices}
use Rattle.node_api.specs.Program.{Program, last_pulse_on}
use Rattle.outcomes.specs.Outcome.{Gathered, Outcome, IsOutcome, is_whole, no_history, start_of}

-- the node of a vertex before its first event, which has written nothing down
abbrev pub gathered_start : {S M E : Type 0} → Program S M E → Net → ℕ → Gathered S M
gathered_start program net v = record { vertex = v; alpha = start_of program net v; entries = [] }

-- Each node is at its start, and each link has empty lists: nothing was put on it.
abbrev pub start_outcome : {S M E : Type 0} → Program S M E → Net → Outcome S M
start_outcome program net = record {
  nodes = map (λ v. gathered_start program net v) (vertices net);
  links = map (λ v. replicate (degree_of net v) no_history) (vertices net);
}

-- This is an outcome, over links of any capacity, with a transcript or without.
abbrev pub StartsAreOutcomes : {S M E : Type 0} → Program S M E → Net → Type 0
StartsAreOutcomes program net =
    (capacity : ℕ) (transcript : Bool) → IsOutcome program net capacity transcript (start_outcome program net)

-- It is whole exactly if nothing is to be done: each node has its last pulse at the start, and no neighbour. So it
-- isn't whole if there is a node with a pulse to make.
abbrev pub WhenStartsAreWhole : {S M E : Type 0} → Program S M E → Net → Type 0
WhenStartsAreWhole program net =
    (is_whole (start_outcome program net) ≡ true)
    ↔ ((v : ℕ) → IsVertex net v → (last_pulse_on program net ≡ 0) × (degree_of net v ≡ 0))
