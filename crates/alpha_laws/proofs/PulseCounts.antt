-- How many messages complete lists have of each pulse. Each list begins with the rounds of its stream, and so has one
-- safe of each pulse; its payloads are those that are sent, and its acknowledgements those that are sent the other way,
-- so that over all links there are as many of both: the ports of all nodes are the other ends of all ports.
use Rattle.std.proofs.Common.{◌≡◌, ⊎_elim, ℕ, zero, suc, ◌+◌, ◌*◌, ◌<◌, ◌≤◌, Bool, true, false, List, [], ◌∷◌, ◌++◌}
use Rattle.std.proofs.Common.{Option, Some, None, refl, sym, ap, ◌∙◌, arith, eq-eqb, ne_eqb}
use Rattle.std.specs.Prelude.{is_some, nat_eq}
use Rattle.std.proofs.lemmas.Bool.{cases_eq}
use Rattle.std.proofs.lemmas.List.Sums.{sum_by-append, sum_by-cons}
use Rattle.interference.specs.Net.{Net, IsNetwork, neighbour_of}
use Rattle.interference.specs.Counts.{edge_count_of, sum_over_ports}
use Rattle.interference.proofs.PortSums.{ports-const, ports-same}
use Rattle.interference.proofs.TwoEnds.{ports-swapped, degrees-are_twice_edges}
use Rattle.node_api.specs.Program.{Program, last_pulse_on}
use Rattle.wires.specs.declared.wire.Wire.{Wire}
use Rattle.wires.specs.declared.wire.Wire.TheVariants.{Payload, Ack, Safe, Close}
use Rattle.wires.specs.Wires.{data_of}
use Rattle.wires.specs.Streams.{payload_wire, rounds, sent_pulse, sent_pulses}
use Rattle.link_rule.specs.Sent.{sends}
use Rattle.alpha_core.specs.View.{bit}
use Rattle.alpha_laws.specs.Simulates.{IsComplete}
use Rattle.alpha_laws.proofs.Complete.{complete-payloads}
use Rattle.alpha_laws.proofs.Sums.{ports-below}
use Rattle.alpha_laws.specs.PulseCounts.{PulsesAreCounted, acks_at_pulse, payloads_at_pulse, payloads_sent_at, safe_pulses_of, safes_at_pulse, times}

-- one pulse more
times_more : (q n : ℕ) (ps : List ℕ) → times q (ps ++ (n ∷ [])) ≡ times q ps + bit (nat_eq q n)
times_more q n ps =
    omega (arith, sum_by-append (λ r. bit (nat_eq q r)) ps (n ∷ []), sum_by-cons (λ r. bit (nat_eq q r)) n [])

same_counts : (q n : ℕ) → q ≡ n → bit (nat_eq q n) ≡ 1
same_counts q n e = ap bit (eq-eqb q n e)

other_counts : (q n : ℕ) → (q ≡ n → ⊥) → bit (nat_eq q n) ≡ 0
other_counts q n ne = ap bit (ne_eqb q n ne)

module _ {M : Type 0} where
  safes-append : (xs ys : List (Wire M)) → safe_pulses_of (xs ++ ys) ≡ safe_pulses_of xs ++ safe_pulses_of ys
  safes-append [] ys = refl
  safes-append (Payload q x ∷ xs) ys = safes-append xs ys
  safes-append (Ack q ∷ xs) ys = safes-append xs ys
  safes-append (Safe q ∷ xs) ys = ap (λ l. q ∷ l) (safes-append xs ys)
  safes-append (Close ∷ xs) ys = safes-append xs ys

  data-safes : (ws : List (Wire M)) → safe_pulses_of (data_of ws) ≡ safe_pulses_of ws
  data-safes [] = refl
  data-safes (Payload q x ∷ ws) = data-safes ws
  data-safes (Ack q ∷ ws) = data-safes ws
  data-safes (Safe q ∷ ws) = ap (λ l. q ∷ l) (data-safes ws)
  data-safes (Close ∷ ws) = data-safes ws

  module _ (sends : ℕ → Option M) (q : ℕ) where
    safe_of_round : (n : ℕ) (o : Option M) → safe_pulses_of (payload_wire n o ++ (Safe n ∷ [])) ≡ n ∷ []
    safe_of_round n None = refl
    safe_of_round n (Some x) = refl

    safes_next : (n : ℕ) → times q (safe_pulses_of (rounds sends (suc n))) ≡ times q (safe_pulses_of (rounds sends n)) + bit (nat_eq q n)
    safes_next n =
        ap (λ l. times q l) (safes-append (rounds sends n) (payload_wire n (sends n) ++ (Safe n ∷ []))
        ∙ ap (λ l. safe_pulses_of (rounds sends n) ++ l) (safe_of_round n (sends n)))
        ∙ times_more q n (safe_pulses_of (rounds sends n))

    no_safe : (n : ℕ) → n ≤ q → times q (safe_pulses_of (rounds sends n)) ≡ 0
    no_safe zero le = refl
    no_safe (suc n) le = omega (arith, safes_next n, no_safe n (omega arith), other_counts q n (λ e. omega (arith, e, le)))

    one_safe : (n : ℕ) → q < n → times q (safe_pulses_of (rounds sends n)) ≡ 1
    one_safe zero lt = absurd (omega arith)
    one_safe (suc n) lt = ⊎_elim
        (λ e. omega (arith, safes_next n, no_safe n (omega (arith, e)), same_counts q n e))
        (λ ne. omega (arith, safes_next n, one_safe n (omega (arith, lt, ne)), other_counts q n ne))
        (cases_eq q n)

    sent_next : (n : ℕ) (o : Option M) (ps : List ℕ) → (q ≡ n → ⊥) → times q (ps ++ sent_pulse n o) ≡ times q ps
    sent_next n None ps ne = omega (arith, sum_by-append (λ r. bit (nat_eq q r)) ps [])
    sent_next n (Some x) ps ne = omega (arith, times_more q n ps, other_counts q n ne)

    sent_here : (n : ℕ) (o : Option M) (ps : List ℕ) → q ≡ n → times q (ps ++ sent_pulse n o) ≡ times q ps + bit (is_some o)
    sent_here n None ps e = omega (arith, sum_by-append (λ r. bit (nat_eq q r)) ps [])
    sent_here n (Some x) ps e = omega (arith, times_more q n ps, same_counts q n e)

    none_sent : (n : ℕ) → n ≤ q → times q (sent_pulses sends n) ≡ 0
    none_sent zero le = refl
    none_sent (suc n) le = sent_next n (sends n) (sent_pulses sends n) (λ e. omega (arith, e, le)) ∙ none_sent n (omega arith)

    once_sent : (n : ℕ) → q < n → times q (sent_pulses sends n) ≡ bit (is_some (sends q))
    once_sent zero lt = absurd (omega arith)
    once_sent (suc n) lt = ⊎_elim
        (λ e. omega (arith, sent_here n (sends n) (sent_pulses sends n) e, none_sent n (omega (arith, e)), ap (λ k. bit (is_some (sends k))) e))
        (λ ne. sent_next n (sends n) (sent_pulses sends n) ne ∙ once_sent n (omega (arith, lt, ne)))
        (cases_eq q n)

    complete_safes : (last : ℕ) (answers : ℕ → Option M) (ws : List (Wire M)) → IsComplete last sends answers ws → q < last → times q (safe_pulses_of ws) ≡ 1
    complete_safes last answers ws is lt =
        let all : safe_pulses_of ws ≡ safe_pulses_of (rounds sends last) ++ [] =
        sym (data-safes ws) ∙ ap safe_pulses_of is.0 ∙ safes-append (rounds sends last) (Close ∷ []) in
        omega (arith, ap (λ l. times q l) all, sum_by-append (λ r. bit (nat_eq q r)) (safe_pulses_of (rounds sends last)) [], one_safe last lt)

bit_most : (b : Bool) → bit b ≤ 1
bit_most true = omega arith
bit_most false = omega arith

module _ {S M E : Type 0} (program : Program S M E) (net : Net) (ok : IsNetwork net) where
  abbrev last : ℕ
  last = last_pulse_on program net

  abbrev sent_at : ℕ → ℕ → ℕ → ℕ
  sent_at q v w = bit (is_some (sends program net v w q))

  pub pulses_counted : PulsesAreCounted program net
  pulses_counted sent complete q lt = record {
    safes = safes;
    payloads = payloads;
    acks = answered;
    messages = omega (arith, safes, answered, most);
  }
    where
      safes : safes_at_pulse net sent q ≡ 2 * edge_count_of net
      safes = omega (
        arith,
        ports-same net (λ v i. times q (safe_pulses_of (sent v i))) (λ v i. 1) (λ v i vertex below.
            let w = neighbour_of net v i in
            complete_safes (sends program net v w) q last (sends program net w v) (sent v i) (complete v i vertex below) lt),
        ports-const net 1,
        degrees-are_twice_edges net ok,
      )

      payloads : payloads_at_pulse net sent q ≡ payloads_sent_at program net q
      payloads = ports-same net _ _ (λ v i vertex below.
          let w = neighbour_of net v i in
          ap (λ l. times q l) (complete-payloads (sends program net v w) last (sends program net w v) (sent v i) (complete v i vertex below))
          ∙ once_sent (sends program net v w) q last lt)

      acks : acks_at_pulse net sent q ≡ sum_over_ports net (λ v i. sent_at q (neighbour_of net v i) v)
      acks = ports-same net _ _ (λ v i vertex below.
          let w = neighbour_of net v i in
          ap (λ l. times q l) (complete v i vertex below).1 ∙ once_sent (sends program net w v) q last lt)

      answered : acks_at_pulse net sent q ≡ payloads_at_pulse net sent q
      answered = acks ∙ sym (ports-swapped net ok (sent_at q)) ∙ sym payloads

      most : payloads_at_pulse net sent q ≤ 2 * edge_count_of net
      most = omega (
        arith,
        payloads,
        ports-below net (λ v i. sent_at q v (neighbour_of net v i)) (λ v i. 1)
            (λ v i vertex below. bit_most (is_some (sends program net v (neighbour_of net v i) q))),
        ports-const net 1,
        degrees-are_twice_edges net ok,
      )
