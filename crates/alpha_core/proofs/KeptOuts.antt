-- Out-lists that are kept as wires and their payloads: what each call leaves.
use Rattle.std.proofs.Common.{◌≡◌, ℕ, suc, zero, ◌<◌, ◌≤◌, ◌+◌, ◌*◌, List, [], ◌∷◌, map, length, get_or, set, refl, sym, ap, ◌∙◌, arith}
use Rattle.std.proofs.Common.{replicate, subst, drop, ◌++◌, ◌-◌}
use Rattle.std.specs.Prelude.{count_by, nat_eq, nat_lt, All}
use Rattle.std.proofs.lemmas.List.{map-set, length-map, length-append}
use Rattle.std.proofs.lemmas.Bool.{le-ltb}
use Rattle.std.proofs.lemmas.List.Folds.{sum_by-replicate}
use Rattle.interference.proofs.Sums.{sum_by-map}
use Rattle.std.proofs.lemmas.List.Elements.{All-set, All-get_or}
use Rattle.wires.specs.declared.wire.Wire.{Wire}
use Rattle.alpha_core.specs.declared.bare.BareWire.{BareWire}
use Rattle.std.proofs.lemmas.List.Sums.{count_by-le-length, sum_by-set, get_or-le-sum_by}
use Rattle.alpha_core.specs.Rows.{out_at, is_over, push_out}
use Rattle.alpha_core.specs.OutLists.{AreOutLists, IsWhole, out_of, outs_of, overs_of}
use Rattle.alpha_core.specs.OutLists.{bare_of, payload_count, payload_of, payloads_in, payloads_out, wires_of}
use Rattle.alpha_core.proofs.OutWires.{bit, grown, fell, wires-length, wires-payloads, wires-more, whole-more, wires-rest, whole-rest}
use Rattle.alpha_core.proofs.OutLists.{out-read}

module _ {X M : Type 0} (bares : X → List BareWire) (pays : X → List M) where
  pub outs-length : (xs : List X) → length (outs_of bares pays xs) ≡ length xs
  outs-length xs = length-map xs (out_of bares pays)

  -- a port of the lists has its place among what is kept
  pub port-below : (xs : List X) (outs : List (List (Wire M))) → outs_of bares pays xs ≡ outs → (i : ℕ) → i < length outs → i < length xs
  port-below xs outs is i below = omega (arith, below, ap length is, outs-length xs)

  pub overs-fit : (most : ℕ) (xs : List X) → overs_of bares pays most xs ≤ length xs
  overs-fit most xs = count_by-le-length (λ x. is_over most (out_of bares pays x)) xs

  -- What is at port i.
  module _ (xs : List X) (i : ℕ) (x : X) (inside : i < length xs) (at : x ≡ get_or xs i x) where
    pub out-is : wires_of (bares x) (pays x) ≡ out_at (outs_of bares pays xs) i
    out-is = out-read (out_of bares pays) xs i x inside at

    pub whole-at : All (IsWhole bares pays) xs → payloads_in (bares x) ≡ length (pays x)
    whole-at all = subst (IsWhole bares pays) (sym at) (All-get_or (IsWhole bares pays) xs i x inside all)

    pub length-at : All (IsWhole bares pays) xs → length (bares x) ≡ length (out_at (outs_of bares pays xs) i)
    length-at all = sym (wires-length (bares x) (pays x) (whole-at all)) ∙ ap length out-is

    pub payloads-at : All (IsWhole bares pays) xs → length (pays x) ≡ payloads_out (out_at (outs_of bares pays xs) i)
    payloads-at all = sym (wires-payloads (bares x) (pays x) (whole-at all)) ∙ ap payloads_out out-is

    count-change : (most : ℕ) (y : X) → overs_of bares pays most (set xs i y) + bit (is_over most (out_of bares pays x))
        ≡ overs_of bares pays most xs + bit (is_over most (out_of bares pays y))
    count-change most y =
        ap (λ z. overs_of bares pays most (set xs i y) + bit (is_over most (out_of bares pays z))) at
        ∙ sum_by-set (λ z. bit (is_over most (out_of bares pays z))) xs i y x inside

    pub counted : (most : ℕ) → bit (is_over most (out_of bares pays x)) ≤ overs_of bares pays most xs
    counted most = subst (λ z. bit (is_over most (out_of bares pays z)) ≤ overs_of bares pays most xs) (sym at)
        (get_or-le-sum_by (λ z. bit (is_over most (out_of bares pays z))) xs i x inside)

    -- a list of one wire more than so many is counted
    pub is-counted : (most : ℕ) → All (IsWhole bares pays) xs → 0 < length (bares x)
        → bit (nat_eq (length (bares x)) (most + 1)) ≤ overs_of bares pays most xs
    is-counted most all some = omega (
      arith,
      counted most,
      fell most (wires_of (bares x) (pays x)) (omega (arith, some, wires-length (bares x) (pays x) (whole-at all))),
      ap (λ k. bit (nat_eq k (most + 1))) (wires-length (bares x) (pays x) (whole-at all)),
    )

    -- one port is changed
    changed : (full some full' some' : ℕ) (y : X) (new : List (Wire M)) → AreOutLists bares pays xs full some
        → payloads_in (bares y) ≡ length (pays y) → wires_of (bares y) (pays y) ≡ new
        → full' + bit (is_over 3 (wires_of (bares x) (pays x))) ≡ full + bit (is_over 3 new)
        → some' + bit (is_over 0 (wires_of (bares x) (pays x))) ≡ some + bit (is_over 0 new)
        → AreOutLists bares pays (set xs i y) full' some' × (outs_of bares pays (set xs i y) ≡ set (outs_of bares pays xs) i new)
    changed full some full' some' y new kept whole is n m = (
      record {
        whole = All-set (IsWhole bares pays) xs i y whole kept.whole;
        full_is = omega (arith, n, kept.full_is, count-change 3 y, ap (λ l. bit (is_over 3 l)) is);
        busy_is = omega (arith, m, kept.busy_is, count-change 0 y, ap (λ l. bit (is_over 0 l)) is);
      },
      map-set (out_of bares pays) xs i y ∙ ap (λ l. set (outs_of bares pays xs) i l) is,
    )

    -- a wire comes to a port
    pub pushed : (full some full' some' : ℕ) (w' : Wire M) (y : X) → AreOutLists bares pays xs full some →
        bares y ≡ bares x ++ (bare_of w' ∷ []) → pays y ≡ pays x ++ payload_of w' →
        full' ≡ full + bit (nat_eq (length (bares y)) 4) → some' ≡ some + bit (nat_eq (length (bares y)) 1) →
        AreOutLists bares pays (set xs i y) full' some' × (outs_of bares pays (set xs i y) ≡ push_out (outs_of bares pays xs) i w')
    pushed full some full' some' w' y kept more extra n m =
        let whole = whole-at kept.whole in
        let new : wires_of (bares y) (pays y) ≡ wires_of (bares x) (pays x) ++ (w' ∷ []) =
        ap (λ l. wires_of l (pays y)) more ∙ ap (λ l. wires_of (bares x ++ (bare_of w' ∷ [])) l) extra ∙ wires-more (bares x) (pays x) w' whole in
        let long : length (bares y) ≡ length (wires_of (bares x) (pays x)) + 1 =
        ap length more ∙ length-append (bares x) (bare_of w' ∷ []) ∙ ap (λ k. k + 1) (sym (wires-length (bares x) (pays x) whole)) in
        let grows : (most old new : ℕ) → new ≡ old + bit (nat_eq (length (bares y)) (most + 1))
        → new + bit (is_over most (wires_of (bares x) (pays x))) ≡ old + bit (is_over most (wires_of (bares x) (pays x) ++ (w' ∷ []))) =
        λ most old new is. ap (λ k. k + bit (is_over most (wires_of (bares x) (pays x)))) (is ∙ ap (λ k. old + bit (nat_eq k (most + 1))) long)
        ∙ grown most old (length (wires_of (bares x) (pays x)))
        ∙ ap (λ k. old + bit (nat_lt most k)) (sym (length-append (wires_of (bares x) (pays x)) (w' ∷ []))) in
        let both = changed full some full' some' y (wires_of (bares x) (pays x) ++ (w' ∷ [])) kept
        (ap payloads_in more ∙ whole-more (bares x) (pays x) w' whole ∙ sym (ap length extra)) new (grows 3 full full' n) (grows 0 some some' m) in
        (both.0, both.1 ∙ ap (λ l. set (outs_of bares pays xs) i (l ++ (w' ∷ []))) out-is)

    -- the oldest wire of a port goes
    pub popped : (full some full' some' : ℕ) (b : BareWire) (y : X) → AreOutLists bares pays xs full some → 0 < length (bares x) →
        b ≡ get_or (bares x) 0 b → bares y ≡ drop 1 (bares x) → pays y ≡ drop (payload_count b) (pays x) →
        full' ≡ full - bit (nat_eq (length (bares x)) 4) → some' ≡ some - bit (nat_eq (length (bares x)) 1) →
        AreOutLists bares pays (set xs i y) full' some'
        × (outs_of bares pays (set xs i y) ≡ set (outs_of bares pays xs) i (drop 1 (out_at (outs_of bares pays xs) i)))
    popped full some full' some' b y kept there front less rest n m =
        let whole = whole-at kept.whole in
        let new : wires_of (bares y) (pays y) ≡ drop 1 (wires_of (bares x) (pays x)) =
        ap (λ l. wires_of l (pays y)) less ∙ ap (λ l. wires_of (drop 1 (bares x)) l) rest ∙ wires-rest (bares x) (pays x) b there front whole in
        let falls : (most old new : ℕ) → old ≡ overs_of bares pays most xs → new ≡ old - bit (nat_eq (length (bares x)) (most + 1))
        → new + bit (is_over most (wires_of (bares x) (pays x))) ≡ old + bit (is_over most (drop 1 (wires_of (bares x) (pays x)))) =
        λ most old new was is. omega (
          arith,
          is,
          was,
          counted most,
          fell most (wires_of (bares x) (pays x)) (omega (arith, there, wires-length (bares x) (pays x) whole)),
          ap (λ k. bit (nat_eq k (most + 1))) (wires-length (bares x) (pays x) whole),
        ) in
        let both = changed full some full' some' y (drop 1 (wires_of (bares x) (pays x))) kept
        (ap payloads_in less ∙ whole-rest (bares x) (pays x) b there front whole ∙ sym (ap length rest)) new
        (falls 3 full full' kept.full_is n) (falls 0 some some' kept.busy_is m) in
        (both.0, both.1 ∙ ap (λ l. set (outs_of bares pays xs) i (drop 1 l)) out-is)

  -- at first no port has a wire
  pub kept-empty : (xs : List X) (n : ℕ) → map bares xs ≡ replicate n [] → map pays xs ≡ replicate n [] →
      AreOutLists bares pays xs 0 0 × (outs_of bares pays xs ≡ replicate n [])
  kept-empty xs n empty none = (
    record { whole = all-whole xs n empty none; full_is = no-count 3; busy_is = no-count 0 },
    all-empty xs n empty,
  )
    where
      all-empty : (xs : List X) (n : ℕ) → map bares xs ≡ replicate n [] → outs_of bares pays xs ≡ replicate n []
      all-empty [] zero empty = refl
      all-empty [] (suc n) empty = absurd (omega (arith, ap length empty))
      all-empty (x ∷ xs) zero empty = absurd (omega (arith, ap length empty))
      all-empty (x ∷ xs) (suc n) empty =
          ap (λ l. wires_of (get_or l 0 []) (pays x) ∷ outs_of bares pays xs) empty ∙ ap (λ l. [] ∷ l) (all-empty xs n (ap (λ l. drop 1 l) empty))

      all-whole : (xs : List X) (n : ℕ) → map bares xs ≡ replicate n [] → map pays xs ≡ replicate n [] → All (IsWhole bares pays) xs
      all-whole [] n empty none k d lt = absurd (omega (arith, lt))
      all-whole (x ∷ xs) zero empty none k d lt = absurd (omega (arith, ap length empty))
      all-whole (x ∷ xs) (suc n) empty none zero d lt =
          ap (λ l. payloads_in (get_or l 0 [])) empty ∙ sym (ap (λ l. length (get_or l 0 [])) none)
      all-whole (x ∷ xs) (suc n) empty none (suc k) d lt =
          all-whole xs n (ap (λ l. drop 1 l) empty) (ap (λ l. drop 1 l) none) k d (omega (arith, lt))

      no-count : (most : ℕ) → 0 ≡ overs_of bares pays most xs
      no-count most = omega (
        arith,
        sym (sum_by-map (λ (l : List (Wire M)). bit (is_over most l)) (out_of bares pays) xs)
            ∙ ap (λ l. count_by (λ (o : List (Wire M)). is_over most o) l) (all-empty xs n empty)
            ∙ sum_by-replicate (λ (l : List (Wire M)). bit (is_over most l)) n []
            ∙ ap (λ b. n * bit b) (le-ltb most 0 (omega arith)),
      )
