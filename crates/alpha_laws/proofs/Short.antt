-- How long a legal list is at most: its data begin a stream, and its acknowledgements the pulses at which a payload comes the other way.
use Rattle.std.proofs.Common.{ℕ, zero, suc, ◌+◌, ◌*◌, ◌≤◌, List, [], ◌∷◌, Option, Some, None, length, ap, arith}
use Rattle.std.proofs.lemmas.List.{length-append}
use Rattle.wires.specs.declared.wire.Wire.{Wire}
use Rattle.wires.specs.declared.wire.Wire.TheVariants.{Close}
use Rattle.wires.specs.Wires.{data_of, acks_of}
use Rattle.wires.specs.Streams.{rounds, stream, sent_pulse, sent_pulses, Legal}
use Rattle.wires.proofs.Wires.{begins_rest}
use Rattle.alpha_laws.proofs.Complete.{data_and_acks, length-rounds}

module _ {M : Type 0} where
  pub few_wires : (last : ℕ) (own other : ℕ → Option M) (ws : List (Wire M)) → Legal last own other ws
      → length ws ≤ length (sent_pulses own last) + length (sent_pulses other last) + (last + 1)
  few_wires last own other ws legal =
      let wires = begins_rest (data_of ws) (stream own last) legal.wires in
      let acks = begins_rest (acks_of ws) (sent_pulses other last) legal.acks in
      omega (
        arith,
        data_and_acks ws,
        ap (λ l. length l) wires.1,
        length-append (data_of ws) wires.0,
        length-append (rounds own last) (Close ∷ []),
        length-rounds own last,
        ap (λ l. length l) acks.1,
        length-append (acks_of ws) acks.0,
      )

  few_pulses : (sends : ℕ → Option M) (last : ℕ) → length (sent_pulses sends last) ≤ last
  few_pulses sends zero = omega arith
  few_pulses sends (suc n) =
      omega (arith, length-append (sent_pulses sends n) (sent_pulse n (sends n)), few_pulses sends n, one (sends n))
    where
      one : (o : Option M) → length (sent_pulse n o) ≤ 1
      one None = omega arith
      one (Some x) = omega arith

  pub short : (last : ℕ) (own other : ℕ → Option M) (ws : List (Wire M)) → Legal last own other ws → length ws ≤ 3 * last + 1
  short last own other ws legal = omega (arith, few_wires last own other ws legal, few_pulses own last, few_pulses other last)
