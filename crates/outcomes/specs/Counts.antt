-- How many wires a run of workers put on its links.
use Rattle.std.specs.Prelude.{◌≡◌, ℕ, ◌+◌, ◌*◌, ◌<◌, Bool, true, length, sum_by}
use Rattle.interference.specs.Net.{Net}
use Rattle.interference.specs.Counts.{edge_count_of}
use Rattle.node_api.specs.Program.{Program, last_pulse_on}
use Rattle.wires.specs.StampedWires.{wires_of}
use Rattle.wires.specs.Wires.{payloads_of}
use Rattle.alpha_laws.specs.Counts.{payloads_sent}
use Rattle.alpha_laws.specs.PulseCounts.{PulseIsCounted}
use Rattle.outcomes.specs.Outcome.{Outcome, IsOutcome, is_whole, put_by}

-- how many wires were put, on all links
abbrev pub wires_put : {S M : Type 0} → Outcome S M → ℕ
wires_put outcome = sum_by (λ row. sum_by (λ h. length h.put) row) outcome.links

-- how many of them carry payloads
abbrev pub payloads_put : {S M : Type 0} → Outcome S M → ℕ
payloads_put outcome = sum_by (λ row. sum_by (λ h. length (payloads_of (wires_of h.put))) row) outcome.links

-- What every outcome that is whole has put, whatever the threads did: as many payloads as the synchronous run sends;
-- and as many wires as twice the payloads, and R + 1 for each direction of each edge, where R is the last pulse.
pub record WiresAreCounted {S M E : Type 0} (program : Program S M E) (net : Net) (outcome : Outcome S M) : Type 0 where
  pub payloads : payloads_put outcome ≡ payloads_sent program net
  pub wires : wires_put outcome ≡ 2 * payloads_put outcome + 2 * edge_count_of net * (last_pulse_on program net + 1)

-- The wires of every outcome that is whole are counted.
abbrev pub WholeOutcomesAreCounted : {S M E : Type 0} → Program S M E → Net → Type 0
WholeOutcomesAreCounted {S} {M} program net =
    (capacity : ℕ) (transcript : Bool) (outcome : Outcome S M)
    → IsOutcome program net capacity transcript outcome → is_whole outcome ≡ true → WiresAreCounted program net outcome

-- So are the messages of each pulse below the last one.
abbrev pub PulsesOfWholeOutcomesAreCounted : {S M E : Type 0} → Program S M E → Net → Type 0
PulsesOfWholeOutcomesAreCounted {S} {M} program net =
    (capacity : ℕ) (transcript : Bool) (outcome : Outcome S M)
    → IsOutcome program net capacity transcript outcome → is_whole outcome ≡ true
    → (q : ℕ) → q < last_pulse_on program net → PulseIsCounted program net (put_by outcome) q
