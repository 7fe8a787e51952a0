-- How many wires runs of workers put on their links.
use Rattle.std.specs.Prelude.{◌≡◌, ℕ, ◌+◌, ◌*◌, ◌≤◌, Bool, true, length}
use Rattle.interference.specs.Counts.{edge_count_of}
use Rattle.interference.specs.Net.{IsEdge, Net}
use Rattle.node_api.specs.Program.{Program, last_pulse_on}
use Rattle.link_rule.specs.Sent.{sends}
use Rattle.wires.specs.Streams.{sent_pulses}
use Rattle.outcomes.specs.Counts.{wires_put}
use Rattle.outcomes.specs.Outcome.{IsOutcome, Outcome, is_whole}

-- how many payloads the synchronous run sends from v to w
abbrev pub payloads_over : {S M E : Type 0} → Program S M E → Net → ℕ → ℕ → ℕ
payloads_over program net v w = length (sent_pulses (sends program net v w) (last_pulse_on program net))

-- The synchronous run sends at most so many payloads over each edge, both directions together.
abbrev pub SendsAtMost : {S M E : Type 0} → Program S M E → Net → ℕ → Type 0
SendsAtMost program net each =
    (v w : ℕ) → IsEdge net v w → payloads_over program net v w + payloads_over program net w v ≤ each

-- Then every whole outcome has put at most so many wires, over all edges together: each payload and its
-- acknowledgement, and over each direction of each edge a safe for each pulse before the last, and Close.
abbrev pub WholeOutcomesPutFew : {S M E : Type 0} → Program S M E → Net → Type 0
WholeOutcomesPutFew {S} {M} program net =
    (each : ℕ) → SendsAtMost program net each
    → (capacity : ℕ) (transcript : Bool) (outcome : Outcome S M)
    → IsOutcome program net capacity transcript outcome → is_whole outcome ≡ true
    → wires_put outcome ≤ edge_count_of net * (2 * (each + last_pulse_on program net + 1))
