-- How many wires a complete list has: its payloads, a safe for each pulse below the last one and Close, and an acknowledgement
-- for each payload of the other direction.
use Rattle.std.proofs.Common.{◌≡◌, ℕ, zero, suc, ◌+◌, List, [], ◌∷◌, ◌++◌, length, Option, Some, None, refl, sym, ap, ◌∙◌, append-nil, arith}
use Rattle.std.proofs.lemmas.List.{length-append}
use Rattle.wires.specs.declared.wire.Wire.{Wire}
use Rattle.wires.specs.declared.wire.Wire.TheVariants.{Payload, Ack, Safe, Close}
use Rattle.wires.specs.Wires.{data_of, acks_of, payloads_of}
use Rattle.wires.specs.Streams.{payload_wire, sent_pulse, rounds, sent_pulses}
use Rattle.wires.proofs.Wires.{payloads-append}
use Rattle.alpha_laws.specs.Simulates.{IsComplete}

module _ {M : Type 0} where
  pub data-payloads : (ws : List (Wire M)) → payloads_of (data_of ws) ≡ payloads_of ws
  data-payloads [] = refl
  data-payloads (Payload q x ∷ ws) = ap (λ l. q ∷ l) (data-payloads ws)
  data-payloads (Ack q ∷ ws) = data-payloads ws
  data-payloads (Safe q ∷ ws) = data-payloads ws
  data-payloads (Close ∷ ws) = data-payloads ws

  pub data_and_acks : (ws : List (Wire M)) → length ws ≡ length (data_of ws) + length (acks_of ws)
  data_and_acks [] = refl
  data_and_acks (Payload q x ∷ ws) = omega (arith, data_and_acks ws)
  data_and_acks (Ack q ∷ ws) = omega (arith, data_and_acks ws)
  data_and_acks (Safe q ∷ ws) = omega (arith, data_and_acks ws)
  data_and_acks (Close ∷ ws) = omega (arith, data_and_acks ws)

  module _ (sends : ℕ → Option M) where
    payloads-round : (n : ℕ) (o : Option M) → payloads_of (payload_wire n o ++ (Safe n ∷ [])) ≡ sent_pulse n o
    payloads-round n None = refl
    payloads-round n (Some x) = refl

    payloads-rounds : (n : ℕ) → payloads_of (rounds sends n) ≡ sent_pulses sends n
    payloads-rounds zero = refl
    payloads-rounds (suc n) =
        payloads-append (rounds sends n) (payload_wire n (sends n) ++ (Safe n ∷ []))
        ∙ ap (λ l. l ++ payloads_of (payload_wire n (sends n) ++ (Safe n ∷ []))) (payloads-rounds n)
        ∙ ap (λ l. sent_pulses sends n ++ l) (payloads-round n (sends n))

    length-round : (n : ℕ) (o : Option M) → length (payload_wire n o ++ (Safe n ∷ [])) ≡ length (sent_pulse n o) + 1
    length-round n None = refl
    length-round n (Some x) = refl

    pub length-rounds : (n : ℕ) → length (rounds sends n) ≡ length (sent_pulses sends n) + n
    length-rounds zero = refl
    length-rounds (suc n) =
        omega (
          arith,
          length-append (rounds sends n) (payload_wire n (sends n) ++ (Safe n ∷ [])),
          length-append (sent_pulses sends n) (sent_pulse n (sends n)),
          length-round n (sends n),
          length-rounds n,
        )

    pub complete-payloads : (last : ℕ) (answers : ℕ → Option M) (ws : List (Wire M)) → IsComplete last sends answers ws →
        payloads_of ws ≡ sent_pulses sends last
    complete-payloads last answers ws is =
        sym (data-payloads ws) ∙ ap payloads_of is.0 ∙ payloads-append (rounds sends last) (Close ∷ [])
        ∙ append-nil _ ∙ payloads-rounds last

    pub length-complete : (last : ℕ) (answers : ℕ → Option M) (ws : List (Wire M)) → IsComplete last sends answers ws →
        length ws ≡ length (sent_pulses sends last) + length (sent_pulses answers last) + (last + 1)
    length-complete last answers ws is =
        omega (
          arith,
          data_and_acks ws,
          ap (λ l. length l) is.0,
          ap (λ l. length l) is.1,
          length-append (rounds sends last) (Close ∷ []),
          length-rounds last,
        )
