-- Parts of a turn one after the other: what a loop over attempts has done so far, and what the next attempt makes of it.
use Rattle.std.proofs.Common.{◌≡◌, ◌<◌, ◌+◌, ℕ, true, false, Ok, Err, refl, sym, arith, ◌∙◌, true≢false}
use Rattle.std.specs.Prelude.{Bool, Result, IsErrAnd}
use Rattle.std.proofs.Math.Dec.{ltb}
use Rattle.std.proofs.lemmas.Bool.{ltb-true, ltb-false}
use Rattle.std.specs.declared.cmp.PartialEq as equality
use Rattle.node_api.specs.declared.program.NodeProgram as program
use Rattle.node_api.specs.declared.payload.PayloadText as text
use Rattle.wired_nodes.specs.Blocked.{IsUnmoved}
use Rattle.wired_nodes.specs.Counted.{CountsOn, events_of}
use Rattle.wired_nodes.specs.Stepped.{Stepped}
use Rattle.wired_nodes.specs.declared.wiring.Wiring as wiring
use Rattle.wired_nodes.specs.declared.node.Node.{Node}
use Rattle.wired_nodes.specs.declared.refused.TurnRefused.{TurnRefused}
use Rattle.wired_nodes.proofs.Counting.{counts-still, counts_both}
use Rattle.wired_nodes.proofs.Stepping.{stepped-early}
use Rattle.wired_nodes.proofs.Unmoved.{still_unmoved}

module _ {J P T : Type 0} {j : wiring.Ghosts J} {p : program.Ghosts P T} {t : text.Ghosts T} {q : equality.Ghosts T} where
  -- n attempts of a loop did something
  pub record Begun (old now : Node J P T j p t q) (n : ℕ) : Type 0 where
    pub vertex : now.vertex ≡ old.vertex
    pub degree : now.degree ≡ old.degree
    pub refusal : now.refusal ≡ old.refusal
    pub counts : CountsOn old now
    pub moved : 0 < n → events_of old < events_of now
    pub unmoved : n ≡ 0 → IsUnmoved old now

  pub begun-none : (node : Node J P T j p t q) → Begun node node 0
  begun-none node = record {
    vertex = refl;
    degree = refl;
    refusal = refl;
    counts = counts-still refl refl refl refl;
    moved = λ some. absurd (omega (arith, some));
    unmoved = λ none. record { alpha = refl; aside = refl; puts = refl; takes = refl; entries = refl; counter = refl; room = λ has. has };
  }

  -- one more did something
  pub begun-more : (old via new : Node J P T j p t q) (n : ℕ) {did : Bool} → Begun old via n → Stepped via new (Ok did) → did ≡ true
      → Begun old new (n + 1)
  begun-more old via new n a b did = record {
    vertex = b.vertex ∙ a.vertex;
    degree = b.degree ∙ a.degree;
    refusal = b.refusal ∙ a.refusal;
    counts = counts_both old via new a.counts b.counts;
    moved = λ some. omega (arith, a.counts.events, b.moved did);
    unmoved = λ none. absurd (omega (arith, none));
  }

  -- one did nothing
  pub begun-still : (old via new : Node J P T j p t q) (n : ℕ) {did : Bool} → Begun old via n → Stepped via new (Ok did) → did ≡ false → Begun old new n
  begun-still old via new n a b nothing = record {
    vertex = b.vertex ∙ a.vertex;
    degree = b.degree ∙ a.degree;
    refusal = b.refusal ∙ a.refusal;
    counts = counts_both old via new a.counts b.counts;
    moved = λ some. omega (arith, a.moved some, b.counts.events);
    unmoved = λ none. still_unmoved old via new (a.unmoved none) (b.unmoved nothing);
  }

  -- the loop ends, and says whether one of them did something
  pub begun-over : (old now : Node J P T j p t q) (n : ℕ) → Begun old now n → Stepped old now (Ok (ltb 0 n))
  begun-over old now n a = record {
    vertex = a.vertex;
    degree = a.degree;
    refusal = a.refusal;
    counts = a.counts;
    moved = λ some. a.moved (ltb-true 0 n some);
    unmoved = λ none. let few = ltb-false 0 n none in a.unmoved (omega (arith, few));
    refused = tt;
    full = tt;
  }

  -- and says so, since one did
  pub begun-did : (old now : Node J P T j p t q) (n : ℕ) → 0 < n → Begun old now n → Stepped old now (Ok true)
  begun-did old now n some a = record {
    vertex = a.vertex;
    degree = a.degree;
    refusal = a.refusal;
    counts = a.counts;
    moved = λ did. a.moved some;
    unmoved = λ did. absurd (true≢false did);
    refused = tt;
    full = tt;
  }

  -- and says that none did
  pub begun-not : (old now : Node J P T j p t q) → Begun old now 0 → Stepped old now (Ok false)
  begun-not old now a = record {
    vertex = a.vertex;
    degree = a.degree;
    refusal = a.refusal;
    counts = a.counts;
    moved = λ did. absurd (true≢false (sym did));
    unmoved = λ did. a.unmoved refl;
    refused = tt;
    full = tt;
  }

  -- one ended early
  pub begun-early : (old via new : Node J P T j p t q) (n : ℕ) {why : TurnRefused} {r : Result Bool TurnRefused} → Begun old via n
      → Stepped via new (Err why) → IsErrAnd r (λ error. error ≡ why) → Stepped old new r
  begun-early old via new n {why} a b is =
      stepped-early why is (b.vertex ∙ a.vertex) (b.degree ∙ a.degree) (b.refusal ∙ a.refusal) (counts_both old via new a.counts b.counts) b.refused b.full

  -- one part after another: the second did something, or nothing, or ended early
  pub stepped-more : (old via new : Node J P T j p t q) {a b : Bool} → Stepped old via (Ok a) → Stepped via new (Ok b) → b ≡ true → Stepped old new (Ok true)
  stepped-more old via new first next did = record {
    vertex = next.vertex ∙ first.vertex;
    degree = next.degree ∙ first.degree;
    refusal = next.refusal ∙ first.refusal;
    counts = counts_both old via new first.counts next.counts;
    moved = λ is. omega (arith, first.counts.events, next.moved did);
    unmoved = λ is. absurd (true≢false is);
    refused = tt;
    full = tt;
  }

  pub stepped-still : (old via new : Node J P T j p t q) {a b : Bool} → Stepped old via (Ok a) → Stepped via new (Ok b) → b ≡ false → Stepped old new (Ok a)
  stepped-still old via new first next nothing = record {
    vertex = next.vertex ∙ first.vertex;
    degree = next.degree ∙ first.degree;
    refusal = next.refusal ∙ first.refusal;
    counts = counts_both old via new first.counts next.counts;
    moved = λ is. omega (arith, first.moved is, next.counts.events);
    unmoved = λ is. still_unmoved old via new (first.unmoved is) (next.unmoved nothing);
    refused = tt;
    full = tt;
  }

  pub stepped-on : (old via new : Node J P T j p t q) {a : Bool} {why : TurnRefused} {r : Result Bool TurnRefused} → Stepped old via (Ok a)
      → Stepped via new (Err why) → IsErrAnd r (λ error. error ≡ why) → Stepped old new r
  stepped-on old via new {why = why} first next is =
      stepped-early why is (next.vertex ∙ first.vertex) (next.degree ∙ first.degree) (next.refusal ∙ first.refusal)
      (counts_both old via new first.counts next.counts) next.refused next.full
