-- How many wires the links of a whole run carry, and how many events it has.
use Rattle.std.specs.Prelude.{◌≡◌, ℕ, ◌+◌, ◌*◌, ◌<◌, ◌≤◌, List, length, sum_by}
use Rattle.interference.specs.Net.{Net, IsVertex, count_of, vertices, degree_of, neighbour_of}
use Rattle.interference.specs.Counts.{sum_over_ports, edge_count_of}
use Rattle.node_api.specs.Program.{Program, last_pulse_on}
use Rattle.wires.specs.declared.wire.Wire.{Wire}
use Rattle.wires.specs.Wires.{payloads_of}
use Rattle.wires.specs.Streams.{sent_pulses}
use Rattle.link_rule.specs.Sent.{sends, IsLegal}
use Rattle.alpha_core.specs.View.{Node}
use Rattle.alpha_laws.specs.Simulates.{IsCompleteOn, taken_over}

-- how many wires the lists of all links have
abbrev pub wires_on : {M : Type 0} → Net → (ℕ → ℕ → List (Wire M)) → ℕ
wires_on net sent = sum_over_ports net (λ v i. length (sent v i))

-- how many of them carry payloads
abbrev pub payloads_on : {M : Type 0} → Net → (ℕ → ℕ → List (Wire M)) → ℕ
payloads_on net sent = sum_over_ports net (λ v i. length (payloads_of (sent v i)))

-- how many payloads the synchronous run sends below the last pulse, over all links
abbrev pub payloads_sent : {S M E : Type 0} → Program S M E → Net → ℕ
payloads_sent program net =
    sum_over_ports net
    (λ v i. length (sent_pulses (sends program net v (neighbour_of net v i)) (last_pulse_on program net)))

-- If the list of each link is complete, their payloads are as many as the synchronous run sends, and their wires are
-- twice as many, and over each direction of each edge the safes below the last pulse and one Close.
abbrev pub CompleteListsAreCounted : {S M E : Type 0} → Program S M E → Net → Type 0
CompleteListsAreCounted {S} {M} program net =
    (sent : ℕ → ℕ → List (Wire M))
    → ((v i : ℕ) → IsVertex net v → i < degree_of net v →
    IsCompleteOn program net v (neighbour_of net v i) (sent v i))
    → (payloads_on net sent ≡ payloads_sent program net)
    × (wires_on net sent ≡ 2 * payloads_on net sent + 2 * edge_count_of net * (last_pulse_on program net + 1))

-- A legal list of a link has at most 3·R + 1 wires, where R is the last pulse: a payload and a safe for each pulse
-- below R, an acknowledgement for each payload that comes the other way, and Close.
abbrev pub LegalListsAreShort : {S M E : Type 0} → Program S M E → Net → Type 0
LegalListsAreShort {S} {M} program net =
    (v w : ℕ) (ws : List (Wire M)) → IsLegal program net v w ws → length ws ≤ 3 * last_pulse_on program net + 1

-- how many wires the links of a whole run carry: each payload that the synchronous run sends, with its acknowledgement,
-- and R + 1 for each direction of each edge, which are the safes of the pulses below R, and Close
abbrev pub wires_of_run : {S M E : Type 0} → Program S M E → Net → ℕ
wires_of_run program net = 2 * payloads_sent program net + 2 * edge_count_of net * (last_pulse_on program net + 1)

-- how many events a whole run has: each node makes R pulses, and each wire is put and is taken
abbrev pub events_of_run : {S M E : Type 0} → Program S M E → Net → ℕ
events_of_run program net = count_of net * last_pulse_on program net + 2 * wires_of_run program net

-- how many events nodes have made so far: their pulses, the wires put on their links, and those taken from these
abbrev pub events_made : {S M : Type 0} → Net → (ℕ → Node S M) → (ℕ → ℕ → List (Wire M)) → (ℕ → ℕ → List (Wire M)) → ℕ
events_made net nodes sent taken =
    sum_by (λ v. (nodes v).view.pulse) (vertices net)
    + sum_over_ports net (λ v i. length (sent v i) + length (taken_over net taken v i))
