-- What the stream of a link has, up to a pulse and as a whole.
use Rattle.std.proofs.Common.{◌≡◌, ℕ, zero, suc, ◌+◌, ◌<◌, ◌≤◌, Bool, true, false, List, [], ◌∷◌, ◌++◌}
use Rattle.std.proofs.Common.{Option, Some, None, refl, sym, ap, ◌∙◌, append_assoc, arith, subst, ⊎_elim}
use Rattle.std.specs.Prelude.{is_some, if◌then◌else◌, nat_eq, Contains}
use Rattle.std.proofs.lemmas.Bool.{eq-eqb, ne_eqb}
use Rattle.std.proofs.lemmas.List.Elements.{Contains-append_left, Contains-append_right}
use Rattle.wires.specs.declared.wire.Wire.{Wire}
use Rattle.wires.specs.declared.wire.Wire.TheVariants.{Payload, Ack, Safe, Close}
use Rattle.wires.specs.Wires.{data_of, payloads_of, payload_at, safes_of}
use Rattle.wires.specs.Streams.{payload_wire, rounds, stream}
use Rattle.alpha_core.specs.View.{bit}
use Rattle.wires.proofs.Wires.{payloads-append}
use Rattle.alpha_laws.specs.Fits.{stream_up_to}
use Rattle.alpha_laws.proofs.Listed.{contains_cons, contains_more}

module _ {M : Type 0} where
  pub safes-append : (xs ys : List (Wire M)) → safes_of (xs ++ ys) ≡ safes_of xs + safes_of ys
  safes-append [] ys = omega arith
  safes-append (Payload q x ∷ xs) ys = safes-append xs ys
  safes-append (Ack q ∷ xs) ys = safes-append xs ys
  safes-append (Safe q ∷ xs) ys = omega (arith, safes-append xs ys)
  safes-append (Close ∷ xs) ys = safes-append xs ys

  pub data-safes : (ws : List (Wire M)) → safes_of (data_of ws) ≡ safes_of ws
  data-safes [] = refl
  data-safes (Payload q x ∷ ws) = data-safes ws
  data-safes (Ack q ∷ ws) = data-safes ws
  data-safes (Safe q ∷ ws) = omega (arith, data-safes ws)
  data-safes (Close ∷ ws) = data-safes ws

  pub close_of_data : (ws : List (Wire M)) → Contains (data_of ws) Close → Contains ws Close
  close_of_data [] h = h
  close_of_data (Payload q x ∷ ws) h = ⊎_elim (λ e. absurd cc) (λ more. contains_more _ ws _ (close_of_data ws more)) (contains_cons _ (data_of ws) _ h)
  close_of_data (Ack q ∷ ws) h = contains_more _ ws _ (close_of_data ws h)
  close_of_data (Safe q ∷ ws) h = ⊎_elim (λ e. absurd cc) (λ more. contains_more _ ws _ (close_of_data ws more)) (contains_cons _ (data_of ws) _ h)
  close_of_data (Close ∷ ws) h = (0, omega arith, refl)

  safes_payload : (q : ℕ) (o : Option M) → safes_of (payload_wire q o) ≡ 0
  safes_payload q None = refl
  safes_payload q (Some x) = refl

  -- what the stream up to a pulse has
  module _ (last : ℕ) (sends : ℕ → Option M) (p : ℕ) where
    pub safes-rounds : (n : ℕ) → safes_of (rounds sends n) ≡ n
    safes-rounds zero = refl
    safes-rounds (suc n) =
        omega (
          arith,
          safes-append (rounds sends n) (payload_wire n (sends n) ++ (Safe n ∷ [])),
          safes-append (payload_wire n (sends n)) (Safe n ∷ []),
          safes-rounds n,
          safes_payload n (sends n),
        )

    abbrev after_safe : Bool → List (Wire M)
    after_safe said = if said then Safe p ∷ [] else []

    abbrev closing : List (Wire M)
    closing = if nat_eq p last then Close ∷ [] else []

    pub safes-up_to : (said : Bool) → safes_of (stream_up_to last sends p said) ≡ p + bit said
    safes-up_to said =
        omega (
          arith,
          safes-append (rounds sends p) (payload_wire p (sends p) ++ (after_safe said ++ closing)),
          safes-append (payload_wire p (sends p)) (after_safe said ++ closing),
          safes-append (after_safe said) closing,
          safes-rounds p,
          safes_payload p (sends p),
          here said,
          shut (nat_eq p last),
        )
      where
        here : (b : Bool) → safes_of (after_safe b) ≡ bit b
        here true = refl
        here false = refl

        shut : (b : Bool) → safes_of {M = M} (if b then Close ∷ [] else []) ≡ 0
        shut true = refl
        shut false = refl

    pub payload-up_to : (said : Bool) → is_some (sends p) ≡ true → Contains (payloads_of (stream_up_to last sends p said)) p
    payload-up_to said e =
        subst (λ l. Contains l p)
        (sym (payloads-append (rounds sends p) _ ∙ ap (λ l. payloads_of (rounds sends p) ++ l) (payloads-append (payload_wire p (sends p)) _)))
        (Contains-append_right (payloads_of (rounds sends p)) _ p (Contains-append_left (payloads_of (payload_wire p (sends p))) _ p (it (sends p) e)))
      where
        it : (o : Option M) → is_some o ≡ true → Contains (payloads_of (payload_wire p o)) p
        it None f = absurd cc
        it (Some x) f = (0, omega arith, refl)

    pub close-up_to : (said : Bool) → p ≡ last → Contains (stream_up_to last sends p said) Close
    close-up_to said e =
        Contains-append_right (rounds sends p) _ _ (Contains-append_right (payload_wire p (sends p)) _ _ (Contains-append_right (after_safe said) closing _
        (it (nat_eq p last) (eq-eqb p last e))))
      where
        shut : Bool → List (Wire M)
        shut b = if b then Close ∷ [] else []

        it : (b : Bool) → b ≡ true → Contains (shut b) Close
        it true f = (0, omega arith, refl)
        it false f = absurd cc

  -- a whole stream has a safe for each pulse below the last one, and no payload of a later one
  pub safes-stream : (sends : ℕ → Option M) (last : ℕ) → safes_of (stream sends last) ≡ last
  safes-stream sends last = omega (arith, safes-append (rounds sends last) (Close ∷ []), safes-rounds last sends last last)

  payload_at-data : (q : ℕ) (ws : List (Wire M)) → payload_at q (data_of ws) ≡ payload_at q ws
  payload_at-data q [] = refl
  payload_at-data q (Payload r x ∷ ws) = ap (λ o. if nat_eq r q then Some x else o) (payload_at-data q ws)
  payload_at-data q (Ack r ∷ ws) = payload_at-data q ws
  payload_at-data q (Safe r ∷ ws) = payload_at-data q ws
  payload_at-data q (Close ∷ ws) = payload_at-data q ws

  none_at-round : (q n : ℕ) (o : Option M) (more : List (Wire M)) → n < q → payload_at q ((payload_wire n o ++ (Safe n ∷ [])) ++ more) ≡ payload_at q more
  none_at-round q n None more lt = refl
  none_at-round q n (Some x) more lt = rw (ne_eqb n q (λ e. omega arith)) refl

  none_at-rounds : (sends : ℕ → Option M) (q n : ℕ) (more : List (Wire M)) → n ≤ q → payload_at q more ≡ None → payload_at q (rounds sends n ++ more) ≡ None
  none_at-rounds sends q zero more le none = none
  none_at-rounds sends q (suc n) more le none =
      let round = payload_wire n (sends n) ++ (Safe n ∷ []) in
      ap (λ l. payload_at q l) (append_assoc (rounds sends n) round more)
      ∙ none_at-rounds sends q n (round ++ more) (omega arith) (none_at-round q n (sends n) more (omega arith) ∙ none)

  pub none_late : (sends : ℕ → Option M) (last q : ℕ) (ws : List (Wire M)) → data_of ws ≡ stream sends last → last ≤ q → payload_at q ws ≡ None
  none_late sends last q ws is le =
      sym (payload_at-data q ws) ∙ ap (λ l. payload_at q l) is ∙ none_at-rounds sends q last (Close ∷ []) le refl
