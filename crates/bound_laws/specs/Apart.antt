-- How far apart nodes without a clock can be.
use Rattle.std.specs.Prelude.{ℕ, ◌+◌, ◌≤◌, Bool, List}
use Rattle.interference.specs.Net.{IsVertex, Net}
use Rattle.node_api.specs.Program.{Program}
use Rattle.sync_rounds.specs.Reach.{IsWithinLinks}
use Rattle.wires.specs.declared.wire.Wire.{Wire}
use Rattle.alpha_core.specs.View.{Node}
use Rattle.alpha_laws.specs.Simulates.{Simulates}
use Rattle.outcomes.specs.Outcome.{IsOutcome, Outcome, node_in}

-- nodes within d links of one another are at most d pulses apart
abbrev pub AreApart : {S M : Type 0} → Net → (ℕ → Node S M) → Type 0
AreApart net nodes = (d v w : ℕ) → IsVertex net v → IsWithinLinks net d v w
    → ((nodes v).view.pulse ≤ (nodes w).view.pulse + d) × ((nodes w).view.pulse ≤ (nodes v).view.pulse + d)

-- so are nodes that simulate the synchronous run,
abbrev pub SimulatingAreApart : {S M E : Type 0} → Program S M E → Net → Type 0
SimulatingAreApart {S} {M} program net =
    (nodes : ℕ → Node S M) (sent taken : ℕ → ℕ → List (Wire M)) → Simulates program net nodes sent taken
    → AreApart net nodes

-- and those of every outcome.
abbrev pub OutcomesAreApart : {S M E : Type 0} → Program S M E → Net → Type 0
OutcomesAreApart {S} {M} program net =
    (capacity : ℕ) (transcript : Bool) (outcome : Outcome S M) → IsOutcome program net capacity transcript outcome
    → AreApart net (node_in program net outcome)
