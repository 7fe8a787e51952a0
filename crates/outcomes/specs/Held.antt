-- How many wires a link holds in what a run of workers leaves.
use Rattle.std.specs.Prelude.{ℕ, ◌<◌, ◌≤◌, Bool, length}
use Rattle.interference.specs.Net.{Net, IsVertex, degree_of}
use Rattle.node_api.specs.Program.{Program}
use Rattle.outcomes.specs.Outcome.{Outcome, IsOutcome, link_in}

-- No link of an outcome holds more than two wires, whatever its capacity.
abbrev pub OutcomesHoldAtMostTwo : {S M E : Type 0} → Program S M E → Net → Type 0
OutcomesHoldAtMostTwo {S} {M} program net =
    (capacity : ℕ) (transcript : Bool) (outcome : Outcome S M) → IsOutcome program net capacity transcript outcome
    → (v i : ℕ) → IsVertex net v → i < degree_of net v → length (link_in outcome v i).held ≤ 2
