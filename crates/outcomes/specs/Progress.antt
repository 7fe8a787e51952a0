-- What the nodes of an outcome can still do, how many events they have made, and what they are once it is whole.
use Rattle.std.specs.Prelude.{◌≡◌, ◌⊎◌, ◌↔◌, ℕ, ◌<◌, ◌≤◌, Bool, true}
use Rattle.interference.specs.Net.{Net, IsVertex}
use Rattle.node_api.specs.Program.{Program}
use Rattle.alpha_laws.specs.Counts.{events_made, events_of_run}
use Rattle.alpha_laws.specs.Progress.{CanMove, HasEnded}
use Rattle.outcomes.specs.Outcome.{Outcome, IsOutcome, held_on, is_whole, node_in, put_by, taken_by}

-- An outcome is whole, or one of its nodes can make an event; over links of any capacity but none.
abbrev pub OutcomesCanGoOn : {S M E : Type 0} → Program S M E → Net → Type 0
OutcomesCanGoOn {S} {M} program net =
    (capacity : ℕ) (transcript : Bool) (outcome : Outcome S M)
    → IsOutcome program net capacity transcript outcome → 0 < capacity
    → ((v : ℕ) × IsVertex net v × CanMove capacity program net (node_in program net outcome) (held_on outcome) v)
    ⊎ (is_whole outcome ≡ true)

-- how many events the nodes of an outcome have made: their pulses, the wires put on its links, and those taken
abbrev pub events_in : {S M E : Type 0} → Program S M E → Net → Outcome S M → ℕ
events_in program net outcome =
    events_made net (node_in program net outcome) (put_by outcome) (taken_by net outcome)

-- They are at most as many as those of a whole run, and as many exactly if the outcome is whole.
abbrev pub OutcomesAreBounded : {S M E : Type 0} → Program S M E → Net → Type 0
OutcomesAreBounded {S} {M} program net =
    (capacity : ℕ) (transcript : Bool) (outcome : Outcome S M) → IsOutcome program net capacity transcript outcome
    → (events_in program net outcome ≤ events_of_run program net)
    × ((is_whole outcome ≡ true) ↔ (events_in program net outcome ≡ events_of_run program net))

-- If it is whole, it has come to the one end: its nodes are those of every other outcome that is whole.
abbrev pub WholeOutcomesHaveEnded : {S M E : Type 0} → Program S M E → Net → Type 0
WholeOutcomesHaveEnded {S} {M} program net =
    (capacity : ℕ) (transcript : Bool) (outcome : Outcome S M)
    → IsOutcome program net capacity transcript outcome → is_whole outcome ≡ true
    → HasEnded program net (node_in program net outcome) (put_by outcome)
