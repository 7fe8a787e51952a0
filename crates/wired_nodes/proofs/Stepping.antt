-- What a part of a turn leaves, exit by exit.
use Rattle.std.proofs.Common.{◌≡◌, ◌<◌, ◌≤◌, ◌+◌, ◌^◌, ℕ, List, true, false, Ok, Err, subst, sym, ◌∙◌, true≢false}
use Rattle.std.specs.Prelude.{Bool, Result, IsErrAnd, IsTrue, max}
use Rattle.std.specs.declared.cmp.PartialEq as equality
use Rattle.atomic_table.specs.Seated.{TableId}
use Rattle.wires.specs.declared.wire.Wire.{Wire}
use Rattle.node_api.specs.declared.program.NodeProgram as program
use Rattle.node_api.specs.declared.payload.PayloadText as text
use Rattle.wired_nodes.specs.Blocked.{IsUnmoved}
use Rattle.wired_nodes.specs.Counted.{CountsOn, events_of}
use Rattle.wired_nodes.specs.HasStamps.{aside_stamp}
use Rattle.wired_nodes.specs.Stepped.{Stepped}
use Rattle.wired_nodes.specs.Tables.{LinkWasFull}
use Rattle.wired_nodes.specs.declared.wiring.Wiring as wiring
use Rattle.wired_nodes.specs.declared.node.Node.{Node}
use Rattle.wired_nodes.specs.declared.refused.TurnRefused.{TurnRefused}
use Rattle.wired_nodes.specs.declared.refused.TurnRefused.TheVariants.{Memory, StampFull}
use Rattle.wired_nodes.proofs.Refusals.{full-isnt_memory, memory-isnt_full}

module _ {J P T : Type 0} {j : wiring.Ghosts J} {p : program.Ghosts P T} {t : text.Ghosts T} {q : equality.Ghosts T} where
  -- it did something
  pub stepped-did : {old new : Node J P T j p t q} → new.vertex ≡ old.vertex → new.degree ≡ old.degree → new.refusal ≡ old.refusal
      → CountsOn old new × (events_of old < events_of new) → Stepped old new (Ok true)
  stepped-did vertex degree refusal counts = record {
    vertex = vertex;
    degree = degree;
    refusal = refusal;
    counts = counts.0;
    moved = λ did. counts.1;
    unmoved = λ did. absurd (true≢false did);
    refused = tt;
    full = tt;
  }

  -- it did nothing
  pub stepped-not : {old new : Node J P T j p t q} → new.vertex ≡ old.vertex → new.degree ≡ old.degree → new.refusal ≡ old.refusal → CountsOn old new
      → IsUnmoved old new → Stepped old new (Ok false)
  stepped-not vertex degree refusal counts unmoved = record {
    vertex = vertex;
    degree = degree;
    refusal = refusal;
    counts = counts;
    moved = λ did. absurd (true≢false (sym did));
    unmoved = λ did. unmoved;
    refused = tt;
    full = tt;
  }

  -- it ended early
  pub stepped-early : {old new : Node J P T j p t q} {r : Result Bool TurnRefused} (why : TurnRefused) → IsErrAnd r (λ error. error ≡ why)
      → new.vertex ≡ old.vertex → new.degree ≡ old.degree → new.refusal ≡ old.refusal → CountsOn old new → (why ≡ Memory → IsTrue j.transcript)
      → (why ≡ StampFull → 2 ^ 64 ≤ max new.counter (aside_stamp new.aside) + 1) → Stepped old new r
  stepped-early {r = Ok did} why is vertex degree refusal counts memory full = absurd is
  stepped-early {r = Err error} why is vertex degree refusal counts memory full = record {
    vertex = vertex;
    degree = degree;
    refusal = refusal;
    counts = counts;
    moved = tt;
    unmoved = tt;
    refused = λ e. memory (sym is ∙ e);
    full = λ e. full (sym is ∙ e);
  }

  -- memory was refused
  pub stepped-memory : {old new : Node J P T j p t q} {r : Result Bool TurnRefused} → IsErrAnd r (λ error. error ≡ Memory) → new.vertex ≡ old.vertex
      → new.degree ≡ old.degree → new.refusal ≡ old.refusal → CountsOn old new → IsTrue j.transcript → Stepped old new r
  stepped-memory is vertex degree refusal counts transcript =
      stepped-early Memory is vertex degree refusal counts (λ e. transcript) (λ e. absurd (memory-isnt_full e))

  -- a stamp would be too great
  pub stepped-full : {old new : Node J P T j p t q} {r : Result Bool TurnRefused} → IsErrAnd r (λ error. error ≡ StampFull) → new.vertex ≡ old.vertex
      → new.degree ≡ old.degree → new.refusal ≡ old.refusal → CountsOn old new → 2 ^ 64 ≤ max new.counter (aside_stamp new.aside) + 1
      → Stepped old new r
  stepped-full is vertex degree refusal counts le =
      stepped-early StampFull is vertex degree refusal counts (λ e. absurd (full-isnt_memory e)) (λ e. le)

-- a link that an end found full, as the link out of a vertex by a port
pub full-there : {P T : Type 0} (tables : List (List TableId)) (v i : ℕ) {at : ℕ × ℕ} {put here : List (Wire T)} → at ≡ (v, i) → put ≡ here
    → LinkWasFull P tables at.0 at.1 put → LinkWasFull P tables v i here
full-there {P} tables v i {at} {put} place is full =
    subst (λ wires. LinkWasFull P tables v i wires) is (subst (λ (p : ℕ × ℕ). LinkWasFull P tables p.0 p.1 put) place full)
