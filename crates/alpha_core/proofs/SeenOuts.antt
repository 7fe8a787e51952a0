-- Out-lists as contracts see them: what a call finds at a port, and what it leaves.
use Rattle.std.proofs.Common.{◌≡◌, ℕ, ◌<◌, ◌≤◌, ◌+◌, ◌-◌, List, [], ◌∷◌, ◌++◌, length, drop, get_or, set, ap, ◌∙◌, arith}
use Rattle.std.specs.Prelude.{nat_eq}
use Rattle.alpha_core.specs.declared.bare.BareWire.{BareWire}
use Rattle.wires.specs.declared.wire.Wire.{Wire}
use Rattle.alpha_core.specs.Rows.{out_at, push_out}
use Rattle.alpha_core.specs.OutLists.{AreOutLists, bare_of, outs_of, overs_of, payload_count, payload_of, payloads_in, payloads_out, wires_of}
use Rattle.alpha_core.proofs.OutWires.{bit}
use Rattle.alpha_core.proofs.KeptOuts.{is-counted, length-at, out-is, payloads-at, popped, port-below, pushed, whole-at}

module _ {X M : Type 0} (bares : X → List BareWire) (pays : X → List M) (xs : List X) {full some : ℕ} {outs : List (List (Wire M))} {i : ℕ}
    (kept : AreOutLists bares pays xs full some) (is : outs_of bares pays xs ≡ outs) (lt : i < length outs) where
  pub list-below : i < length xs
  list-below = port-below bares pays xs outs is i lt

  module _ {x : X} (at : x ≡ get_or xs i x) where
    -- as many wires as the list of the port has
    pub length-seen : length (bares x) ≡ length (out_at outs i)
    length-seen = length-at bares pays xs i x list-below at kept.whole ∙ ap (λ l. length (out_at l i)) is

    pub wires-seen : wires_of (bares x) (pays x) ≡ out_at outs i
    wires-seen = out-is bares pays xs i x list-below at ∙ ap (λ l. out_at l i) is

    pub whole-seen : payloads_in (bares x) ≡ length (pays x)
    whole-seen = whole-at bares pays xs i x list-below at kept.whole

    pub payloads-seen : length (pays x) ≡ payloads_out (out_at outs i)
    payloads-seen = payloads-at bares pays xs i x list-below at kept.whole ∙ ap (λ l. payloads_out (out_at l i)) is

    -- a list of one wire more than so many is counted
    pub counted-seen : (most : ℕ) → 0 < length (out_at outs i) → bit (nat_eq (length (bares x)) (most + 1)) ≤ overs_of bares pays most xs
    counted-seen most there = is-counted bares pays xs i x list-below at most kept.whole (omega (arith, there, length-seen))

    -- a wire comes to the port
    pub pushed-seen : (w' : Wire M) {y : X} {more-full more-some : ℕ} → bares y ≡ bares x ++ (bare_of w' ∷ []) → pays y ≡ pays x ++ payload_of w'
        → more-full ≡ bit (nat_eq (length (bares y)) 4) → more-some ≡ bit (nat_eq (length (bares y)) 1)
        → AreOutLists bares pays (set xs i y) (full + more-full) (some + more-some) × (outs_of bares pays (set xs i y) ≡ push_out outs i w')
    pushed-seen w' {y} {more-full} {more-some} more extra fills begins =
        let both = pushed bares pays xs i x list-below at full some (full + more-full) (some + more-some) w' y kept more extra
        (ap (λ k. full + k) fills) (ap (λ k. some + k) begins) in
        (both.0, both.1 ∙ ap (λ l. push_out l i w') is)

    -- the oldest wire of the port goes
    pub popped-seen : {b : BareWire} {y : X} {less-full less-some : ℕ} → 0 < length (out_at outs i) → b ≡ get_or (bares x) 0 b
        → bares y ≡ drop 1 (bares x) → pays y ≡ drop (payload_count b) (pays x)
        → less-full ≡ bit (nat_eq (length (bares x)) 4) → less-some ≡ bit (nat_eq (length (bares x)) 1)
        → AreOutLists bares pays (set xs i y) (full - less-full) (some - less-some)
        × (outs_of bares pays (set xs i y) ≡ set outs i (drop 1 (out_at outs i)))
    popped-seen {b} {y} {less-full} {less-some} there front less rest frees ends =
        let both = popped bares pays xs i x list-below at full some (full - less-full) (some - less-some) b y kept
        (omega (arith, there, length-seen)) front less rest (ap (λ k. full - k) frees) (ap (λ k. some - k) ends) in
        (both.0, both.1 ∙ ap (λ l. set l i (drop 1 (out_at l i))) is)
