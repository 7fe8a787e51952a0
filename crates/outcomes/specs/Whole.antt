-- What a run of workers leaves if it is whole.
use Rattle.std.specs.Prelude.{◌≡◌, ℕ, ◌<◌, Bool, true, IsTrue, []}
use Rattle.interference.specs.Net.{Net, IsVertex, degree_of, neighbour_of}
use Rattle.node_api.specs.Program.{Program, last_pulse_on}
use Rattle.alpha_core.specs.View.{is_halted}
use Rattle.alpha_laws.specs.Simulates.{IsCompleteOn}
use Rattle.outcomes.specs.Outcome.{Outcome, IsOutcome, is_whole, link_in, node_in, put_by}

-- The run is complete.
pub record IsCompleteRun {S M E : Type 0} (program : Program S M E) (net : Net) (outcome : Outcome S M) : Type 0 where
  -- Every node is at the last pulse.
  pub halted : (v : ℕ) → IsVertex net v
      → IsTrue (is_halted (last_pulse_on program net) (node_in program net outcome v).view)
  -- All that was put on a link was taken from it, and nothing is held.
  pub all_taken : (v i : ℕ) → IsVertex net v → i < degree_of net v
      → (link_in outcome v i).put ≡ (link_in outcome v i).taken
  pub none_held : (v i : ℕ) → IsVertex net v → i < degree_of net v → (link_in outcome v i).held ≡ []
  -- The list of each link is complete.
  pub complete : (v i : ℕ) → IsVertex net v → i < degree_of net v
      → IsCompleteOn program net v (neighbour_of net v i) (put_by outcome v i)

-- Every outcome that is whole is that of a complete run.
abbrev pub WholeOutcomesAreComplete : {S M E : Type 0} → Program S M E → Net → Type 0
WholeOutcomesAreComplete {S} {M} program net =
    (capacity : ℕ) (transcript : Bool) (outcome : Outcome S M)
    → IsOutcome program net capacity transcript outcome → is_whole outcome ≡ true → IsCompleteRun program net outcome
