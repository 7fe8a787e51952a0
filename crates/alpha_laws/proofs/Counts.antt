-- The wires on the links of a network, where the list of each link is complete.
-- Plan: each list has its payloads, the acknowledgements of those of the other direction, and R + 1 wires more; summed over all
-- ports the acknowledgements are as many as the payloads, from the other end of each edge.
use Rattle.std.proofs.Common.{◌≡◌, ℕ, ◌+◌, ◌*◌, ◌<◌, List, length, ap, arith}
use Rattle.interference.specs.Net.{Net, IsNetwork, IsVertex, degree_of, neighbour_of}
use Rattle.interference.specs.Counts.{sum_over_ports, degree_sum_of, edge_count_of}
use Rattle.interference.proofs.PortSums.{ports-same, ports-add, ports-const}
use Rattle.interference.proofs.TwoEnds.{ports-swapped, degrees-are_twice_edges}
use Rattle.node_api.specs.Program.{Program, last_pulse_on}
use Rattle.wires.specs.declared.wire.Wire.{Wire}
use Rattle.wires.specs.Streams.{sent_pulses}
use Rattle.link_rule.specs.Sent.{sends}
use Rattle.alpha_laws.specs.Simulates.{IsCompleteOn}
use Rattle.alpha_laws.specs.Counts.{wires_on, payloads_on, payloads_sent, CompleteListsAreCounted}
use Rattle.alpha_laws.proofs.Complete.{complete-payloads, length-complete}

module _ {S M E : Type 0} (program : Program S M E) (net : Net) (ok : IsNetwork net) where
  abbrev last : ℕ
  last = last_pulse_on program net

  -- how many payloads v sends to w
  abbrev payloads : ℕ → ℕ → ℕ
  payloads v w = length (sent_pulses (sends program net v w) last)

  module _ (sent : ℕ → ℕ → List (Wire M)) (complete : (v i : ℕ) → IsVertex net v → i < degree_of net v →
      IsCompleteOn program net v (neighbour_of net v i) (sent v i)) where
    payloads-are : payloads_on net sent ≡ payloads_sent program net
    payloads-are = ports-same net _ _ (λ v i vertex lt.
        let w = neighbour_of net v i in
        ap (λ l. length l) (complete-payloads (sends program net v w) last (sends program net w v) (sent v i) (complete v i vertex lt)))

    wires-are : wires_on net sent ≡ payloads_sent program net + payloads_sent program net + degree_sum_of net * (last + 1)
    wires-are =
        let own : ℕ → ℕ → ℕ = λ v i. payloads v (neighbour_of net v i) in
        let other : ℕ → ℕ → ℕ = λ v i. payloads (neighbour_of net v i) v in
        let each : wires_on net sent ≡ sum_over_ports net (λ v i. own v i + other v i + (last + 1)) = ports-same net _ _ (λ v i vertex lt.
        let w = neighbour_of net v i in
        length-complete (sends program net v w) last (sends program net w v) (sent v i) (complete v i vertex lt)) in
        omega (
          arith,
          each,
          ports-add net (λ v i. own v i + other v i) (λ v i. last + 1),
          ports-add net own other,
          ports-swapped net ok payloads,
          ports-const net (last + 1),
        )

    counted : (payloads_on net sent ≡ payloads_sent program net)
        × (wires_on net sent ≡ 2 * payloads_on net sent + 2 * edge_count_of net * (last + 1))
    counted = (payloads-are, omega (arith, wires-are, payloads-are, ap (λ n. n * (last + 1)) (degrees-are_twice_edges net ok)))

  pub lists_counted : CompleteListsAreCounted program net
  lists_counted sent complete = counted sent complete
