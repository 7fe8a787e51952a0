-- An out-list from its wires and their payloads, and how a count of long ones moves.
use Rattle.std.proofs.Common.{◌≡◌, ℕ, suc, ◌<◌, ◌≤◌, ◌+◌, Bool, true, false, List, [], ◌∷◌, ◌++◌, length, get_or, refl, sym, ap, ◌∙◌, arith, ⊎_elim}
use Rattle.std.proofs.Common.{cond, ne_eqb, drop}
use Rattle.std.specs.Prelude.{nat_eq, nat_lt}
use Rattle.std.proofs.lemmas.List.{length-append}
use Rattle.std.proofs.lemmas.Bool.{cases_eq, cases_lt, eq-eqb, le-ltb, lt-ltb}
use Rattle.wires.specs.declared.wire.Wire.{Wire}
use Rattle.wires.specs.declared.wire.Wire.TheVariants as wire
use Rattle.alpha_core.specs.declared.bare.BareWire.{BareWire}
use Rattle.alpha_core.specs.declared.bare.BareWire.TheVariants.{Payload, Ack, Safe, Close}
use Rattle.alpha_core.specs.Rows.{is_over}
use Rattle.alpha_core.specs.OutLists.{bare_of, payload_count, payload_of, payloads_in, payloads_out, wires_of}

module _ {M : Type 0} where
  pub wires-length : (bares : List BareWire) (payloads : List M) → payloads_in bares ≡ length payloads → length (wires_of bares payloads) ≡ length bares
  wires-length [] payloads whole = refl
  wires-length (Payload pulse ∷ bares) [] whole = absurd (omega (arith, whole))
  wires-length (Payload pulse ∷ bares) (x ∷ xs) whole = ap suc (wires-length bares xs (omega (arith, whole)))
  wires-length (Ack pulse ∷ bares) payloads whole = ap suc (wires-length bares payloads (omega (arith, whole)))
  wires-length (Safe pulse ∷ bares) payloads whole = ap suc (wires-length bares payloads (omega (arith, whole)))
  wires-length (Close ∷ bares) payloads whole = ap suc (wires-length bares payloads (omega (arith, whole)))

  pub wires-payloads : (bares : List BareWire) (payloads : List M) → payloads_in bares ≡ length payloads →
      payloads_out (wires_of bares payloads) ≡ length payloads
  wires-payloads [] payloads whole = whole
  wires-payloads (Payload pulse ∷ bares) [] whole = absurd (omega (arith, whole))
  wires-payloads (Payload pulse ∷ bares) (x ∷ xs) whole = omega (arith, wires-payloads bares xs (omega (arith, whole)))
  wires-payloads (Ack pulse ∷ bares) payloads whole = omega (arith, wires-payloads bares payloads (omega (arith, whole)))
  wires-payloads (Safe pulse ∷ bares) payloads whole = omega (arith, wires-payloads bares payloads (omega (arith, whole)))
  wires-payloads (Close ∷ bares) payloads whole = omega (arith, wires-payloads bares payloads (omega (arith, whole)))

  -- a wire more
  last-wire : (xs : List M) (w : Wire M) → [] ≡ xs → wires_of (bare_of w ∷ []) (xs ++ payload_of w) ≡ w ∷ []
  last-wire xs (wire.Payload pulse x) none = ap (λ l. wires_of (Payload pulse ∷ []) (l ++ (x ∷ []))) (sym none)
  last-wire xs (wire.Ack pulse) none = refl
  last-wire xs (wire.Safe pulse) none = refl
  last-wire xs wire.Close none = refl

  no-payload : (xs : List M) → 0 ≡ length xs → [] ≡ xs
  no-payload [] none = refl
  no-payload (x ∷ xs) none = absurd (omega (arith, none))

  pub wires-more : (bares : List BareWire) (payloads : List M) (w : Wire M) → payloads_in bares ≡ length payloads →
      wires_of (bares ++ (bare_of w ∷ [])) (payloads ++ payload_of w) ≡ wires_of bares payloads ++ (w ∷ [])
  wires-more [] payloads w whole = last-wire payloads w (no-payload payloads whole)
  wires-more (Payload pulse ∷ bares) [] w whole = absurd (omega (arith, whole))
  wires-more (Payload pulse ∷ bares) (x ∷ xs) w whole = ap (λ l. wire.Payload pulse x ∷ l) (wires-more bares xs w (omega (arith, whole)))
  wires-more (Ack pulse ∷ bares) payloads w whole = ap (λ l. wire.Ack pulse ∷ l) (wires-more bares payloads w (omega (arith, whole)))
  wires-more (Safe pulse ∷ bares) payloads w whole = ap (λ l. wire.Safe pulse ∷ l) (wires-more bares payloads w (omega (arith, whole)))
  wires-more (Close ∷ bares) payloads w whole = ap (λ l. wire.Close ∷ l) (wires-more bares payloads w (omega (arith, whole)))

  counts-same : (w : Wire M) → payload_count (bare_of w) ≡ length (payload_of w)
  counts-same (wire.Payload pulse x) = refl
  counts-same (wire.Ack pulse) = refl
  counts-same (wire.Safe pulse) = refl
  counts-same wire.Close = refl

  pub whole-more : (bares : List BareWire) (payloads : List M) (w : Wire M) → payloads_in bares ≡ length payloads →
      payloads_in (bares ++ (bare_of w ∷ [])) ≡ length (payloads ++ payload_of w)
  whole-more bares payloads w whole = in-both bares (bare_of w) ∙ omega (arith, whole, counts-same w, long payloads (payload_of w))
    where
      in-both : (bares : List BareWire) (b : BareWire) → payloads_in (bares ++ (b ∷ [])) ≡ payloads_in bares + payload_count b
      in-both [] b = omega arith
      in-both (c ∷ bares) b = omega (arith, in-both bares b)

      long : (xs ys : List M) → length (xs ++ ys) ≡ length xs + length ys
      long [] ys = omega arith
      long (x ∷ xs) ys = omega (arith, long xs ys)

  -- the first goes
  pub wires-rest : (bares : List BareWire) (payloads : List M) (b : BareWire) → 0 < length bares → b ≡ get_or bares 0 b →
      payloads_in bares ≡ length payloads → wires_of (drop 1 bares) (drop (payload_count b) payloads) ≡ drop 1 (wires_of bares payloads)
  wires-rest [] payloads b some front whole = absurd (omega (arith, some))
  wires-rest (c ∷ bares) payloads b some front whole = ap (λ a. wires_of bares (drop (payload_count a) payloads)) front ∙ on c payloads whole
    where
      on : (c : BareWire) (payloads : List M) → payload_count c + payloads_in bares ≡ length payloads →
          wires_of bares (drop (payload_count c) payloads) ≡ drop 1 (wires_of (c ∷ bares) payloads)
      on (Payload pulse) [] whole = absurd (omega (arith, whole))
      on (Payload pulse) (x ∷ xs) whole = refl
      on (Ack pulse) payloads whole = refl
      on (Safe pulse) payloads whole = refl
      on Close payloads whole = refl

  pub whole-rest : (bares : List BareWire) (payloads : List M) (b : BareWire) → 0 < length bares → b ≡ get_or bares 0 b →
      payloads_in bares ≡ length payloads → payloads_in (drop 1 bares) ≡ length (drop (payload_count b) payloads)
  whole-rest [] payloads b some front whole = absurd (omega (arith, some))
  whole-rest (c ∷ bares) payloads b some front whole = on c payloads whole ∙ ap (λ a. length (drop (payload_count a) payloads)) (sym front)
    where
      on : (c : BareWire) (payloads : List M) → payload_count c + payloads_in bares ≡ length payloads →
          payloads_in bares ≡ length (drop (payload_count c) payloads)
      on (Payload pulse) [] whole = absurd (omega (arith, whole))
      on (Payload pulse) (x ∷ xs) whole = omega (arith, whole)
      on (Ack pulse) payloads whole = omega (arith, whole)
      on (Safe pulse) payloads whole = omega (arith, whole)
      on Close payloads whole = omega (arith, whole)

-- 1 if it holds
abbrev pub bit : Bool → ℕ
bit b = cond b 1 0

pub bit-le : (n : ℕ) (b : Bool) → n ≡ bit b → n ≤ 1
bit-le n true is = omega (arith, is)
bit-le n false is = omega (arith, is)

-- A list with a wire has that one alone if it has fewer than two.
pub one-alone : (k : ℕ) → 0 < k → bit (nat_lt k 2) ≡ bit (nat_eq k 1)
one-alone k some = ⊎_elim
    (λ same. ap bit (lt-ltb k 2 (omega (arith, same))) ∙ sym (ap bit (eq-eqb k 1 same)))
    (λ other. ap bit (le-ltb k 2 (omega (arith, some, other))) ∙ sym (ap bit (ne_eqb k 1 other)))
    (cases_eq k 1)

pub one-come : (k : ℕ) (old : List BareWire) (b : BareWire) (new : List BareWire) → new ≡ old ++ (b ∷ []) → k ≡ length new
    → bit (nat_lt k 2) ≡ bit (nat_eq (length new) 1)
one-come k old b new more count = ap (λ n. bit (nat_lt n 2)) count ∙ one-alone (length new) (omega (arith, ap length more, length-append old (b ∷ [])))

-- A list has more than so many wires once it has one more.
pub grown : (most n m : ℕ) → n + bit (nat_eq (m + 1) (most + 1)) + bit (nat_lt most m) ≡ n + bit (nat_lt most (m + 1))
grown most n m = ⊎_elim
    (λ same. omega (
      arith,
      ap bit (eq-eqb (m + 1) (most + 1) (omega (arith, same))),
      ap bit (le-ltb most m (omega (arith, same))),
      ap bit (lt-ltb most (m + 1) (omega (arith, same))),
    ))
    (λ other. ⊎_elim
    (λ lt. omega (
      arith,
      ap bit (ne_eqb (m + 1) (most + 1) (λ e. other (omega (arith, e)))),
      ap bit (lt-ltb most m lt),
      ap bit (lt-ltb most (m + 1) (omega (arith, lt))),
    ))
    (λ le. omega (
      arith,
      ap bit (ne_eqb (m + 1) (most + 1) (λ e. other (omega (arith, e)))),
      ap bit (le-ltb most m le),
      ap bit (le-ltb most (m + 1) (omega (arith, le, other))),
    ))
    (cases_lt most m))
    (cases_eq m most)

-- It hasn't any more as its oldest goes.
pub fell : {M : Type 0} (most : ℕ) (out : List (Wire M)) → 0 < length out
    → bit (nat_eq (length out) (most + 1)) + bit (is_over most (drop 1 out)) ≡ bit (is_over most out)
fell most [] some = absurd (omega (arith, some))
fell most (w ∷ out) some = omega (
  arith,
  grown most 0 (length out),
  ap (λ k. bit (nat_eq k (most + 1))) (long w out),
  ap (λ k. bit (nat_lt most k)) (long w out),
)
  where
    long : {A : Type 0} (x : A) (xs : List A) → length (x ∷ xs) ≡ length xs + 1
    long x xs = omega arith
