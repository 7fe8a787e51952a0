-- How many messages of each pulse the links of a whole run carry.
use Rattle.std.specs.Prelude.{◌≡◌, ℕ, ◌+◌, ◌*◌, ◌<◌, ◌≤◌, List, [], ◌∷◌, nat_eq, sum_by, is_some}
use Rattle.interference.specs.Net.{Net, IsVertex, degree_of, neighbour_of}
use Rattle.interference.specs.Counts.{sum_over_ports, edge_count_of}
use Rattle.node_api.specs.Program.{Program, last_pulse_on}
use Rattle.wires.specs.declared.wire.Wire.{Wire}
use Rattle.wires.specs.declared.wire.Wire.TheVariants.{Payload, Ack, Safe, Close}
use Rattle.wires.specs.Wires.{acks_of, payloads_of}
use Rattle.alpha_core.specs.View.{bit}
use Rattle.link_rule.specs.Sent.{sends}
use Rattle.alpha_laws.specs.Simulates.{IsCompleteOn}

-- the pulses of the safes, in order; `payloads_of` and `acks_of` are those of the payloads and acknowledgements
abbrev pub safe_pulses_of : {M : Type 0} → List (Wire M) → List ℕ
safe_pulses_of [] = []
safe_pulses_of (Payload q x ∷ ws) = safe_pulses_of ws
safe_pulses_of (Ack q ∷ ws) = safe_pulses_of ws
safe_pulses_of (Safe q ∷ ws) = q ∷ safe_pulses_of ws
safe_pulses_of (Close ∷ ws) = safe_pulses_of ws

-- how often a pulse stands in a list of pulses
abbrev pub times : ℕ → List ℕ → ℕ
times q pulses = sum_by (λ r. bit (nat_eq q r)) pulses

-- how many safes, acknowledgements and payloads of pulse q the lists of all links have
abbrev pub safes_at_pulse : {M : Type 0} → Net → (ℕ → ℕ → List (Wire M)) → ℕ → ℕ
safes_at_pulse net sent q = sum_over_ports net (λ v i. times q (safe_pulses_of (sent v i)))

abbrev pub acks_at_pulse : {M : Type 0} → Net → (ℕ → ℕ → List (Wire M)) → ℕ → ℕ
acks_at_pulse net sent q = sum_over_ports net (λ v i. times q (acks_of (sent v i)))

abbrev pub payloads_at_pulse : {M : Type 0} → Net → (ℕ → ℕ → List (Wire M)) → ℕ → ℕ
payloads_at_pulse net sent q = sum_over_ports net (λ v i. times q (payloads_of (sent v i)))

-- how many payloads the synchronous run sends at pulse q, over all links
abbrev pub payloads_sent_at : {S M E : Type 0} → Program S M E → Net → ℕ → ℕ
payloads_sent_at program net q =
    sum_over_ports net (λ v i. bit (is_some (sends program net v (neighbour_of net v i) q)))

-- How many messages of a pulse the lists of all links have together: as many safes as there are directions of edges, as
-- many payloads as the synchronous run sends at that pulse, and as many acknowledgements as payloads. They are at most
-- six times the edges, whatever the program sends. These are totals: which link has which message isn't said here.
pub record PulseIsCounted {S M E : Type 0} (program : Program S M E) (net : Net) (sent : ℕ → ℕ → List (Wire M)) (q : ℕ)
    : Type 0 where
  pub safes : safes_at_pulse net sent q ≡ 2 * edge_count_of net
  pub payloads : payloads_at_pulse net sent q ≡ payloads_sent_at program net q
  pub acks : acks_at_pulse net sent q ≡ payloads_at_pulse net sent q
  pub messages : safes_at_pulse net sent q + payloads_at_pulse net sent q + acks_at_pulse net sent q
      ≤ 6 * edge_count_of net

-- If the list of each link is complete, each pulse below the last one has these messages.
abbrev pub PulsesAreCounted : {S M E : Type 0} → Program S M E → Net → Type 0
PulsesAreCounted {S} {M} program net =
    (sent : ℕ → ℕ → List (Wire M))
    → ((v i : ℕ) → IsVertex net v → i < degree_of net v →
    IsCompleteOn program net v (neighbour_of net v i) (sent v i))
    → (q : ℕ) → q < last_pulse_on program net → PulseIsCounted program net sent q
