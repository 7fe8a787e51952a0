-- The data of a list of wires, by the position that it reaches.
use Rattle.std.proofs.Common.{◌≡◌, ℕ, suc, zero, ◌≤◌, Bool, true, false, List, [], ◌∷◌, ◌++◌, Option, Some, None, refl, sym, ap, ◌∙◌, append_assoc}
use Rattle.std.proofs.Common.{append-nil, arith, ⊎_elim}
use Rattle.std.specs.Prelude.{is_some, if◌then◌else◌}
use Rattle.std.proofs.lemmas.Bool.{cases_eq}
use Rattle.wires.specs.declared.wire.Wire.{Wire}
use Rattle.wires.specs.declared.wire.Wire.TheVariants.{Payload, Ack, Safe, Close}
use Rattle.wires.specs.Wires.{data_of}
use Rattle.wires.specs.Streams.{sent_pulse, sent_pulses, payload_wire, rounds}
use Rattle.wires.proofs.Wires.{data-append}
use Rattle.link_rule.specs.Sent.{sends}
use Rattle.alpha_laws.specs.Position.{Position, start_at, move, moves, Allows, Follows}

-- a list is the beginning of another, with the rest of it at hand
abbrev pub HasRest : {A : Type 0} → List A → List A → Type 0
HasRest {A} xs ys = (rest : List A) × (xs ++ rest ≡ ys)

-- the data up to a place
abbrev pub data_to : {M : Type 0} → (ℕ → Option M) → Position → List (Wire M)
data_to sends c = rounds sends c.safes ++ ((if c.paid then payload_wire c.safes (sends c.safes) else []) ++ (if c.closed then Close ∷ [] else []))

module _ {M : Type 0} (sends : ℕ → Option M) (last : ℕ) where
  data_to-step : (c : Position) (w : Wire M) → Allows sends last c w → (c.safes ≡ last → c.paid ≡ false) →
      data_to sends c ++ data_of (w ∷ []) ≡ data_to sends (move c w)
  data_to-step c (Payload q x) a full =
      let is : q ≡ c.safes = a.1 in
      let sent : sends c.safes ≡ Some x = ap sends (sym is) ∙ a.2 in
      rw (a.3, a.0, sent, is) (ap (λ l. l ++ (Payload c.safes x ∷ [])) (append-nil _))
  data_to-step c (Ack q) a full = append-nil _
  data_to-step c (Safe q) a full =
      let is : q ≡ c.safes = a.1 in
      let paid : c.paid ≡ is_some (sends c.safes) = a.2 ∙ ap (λ n. is_some (sends n)) is in
      rw (a.0, is) (append_assoc (rounds sends c.safes) _ _ ∙ ap (λ l. rounds sends c.safes ++ l) (ap (λ l. l ++ (Safe c.safes ∷ [])) (append-nil _ ∙
      both c.paid (sends c.safes) paid)) ∙ sym (append-nil _))
    where
      both : (b : Bool) (o : Option M) → b ≡ is_some o → (if b then payload_wire c.safes o else []) ≡ payload_wire c.safes o
      both true o e = refl
      both false None e = refl
      both false (Some x) e = absurd cc
  data_to-step c Close a full = let none : c.paid ≡ false = full a.1 in rw (a.0, none) (ap (λ l. l ++ (Close ∷ [])) (append-nil _))

  -- a place that a list reaches
  pub record IsPlace (c : Position) : Type 0 where
    pub most : c.safes ≤ last
    pub full : c.safes ≡ last → c.paid ≡ false
    pub ended : c.closed ≡ true → c.safes ≡ last
    pub sent : c.paid ≡ true → is_some (sends c.safes) ≡ true

  place_moves : (c : Position) (w : Wire M) → Allows sends last c w → IsPlace c → IsPlace (move c w)
  place_moves c (Payload q x) a is = record {
    most = is.most;
    full = λ e. let lt = a.4 in let same = a.1 in absurd (omega arith);
    ended =
        λ e. let open' : c.closed ≡ false = a.0 in cc;
    sent = λ e. ap (λ n. is_some (sends n)) (sym a.1) ∙ ap (λ o. is_some o) a.2;
  }
  place_moves c (Ack q) a is = is
  place_moves c (Safe q) a is = record {
    most = let lt = a.3 in let same = a.1 in omega arith;
    full = λ e. refl;
    ended = λ e. let open' : c.closed ≡ false =
        a.0 in cc;
    sent = λ e. cc;
  }
  place_moves c Close a is = record { most = is.most; full = is.full; ended = λ e. a.1; sent = is.sent }

  pub place_is : (c : Position) (ws : List (Wire M)) → Follows sends last c ws → IsPlace c → IsPlace (moves c ws)
  place_is c [] g is = is
  place_is c (w ∷ ws) g is = place_is (move c w) ws g.1 (place_moves c w g.0 is)

  pub data_to-grows : (c : Position) (ws : List (Wire M)) → Follows sends last c ws → IsPlace c → data_to sends c ++ data_of ws ≡ data_to sends (moves c ws)
  data_to-grows c [] g is = append-nil _
  data_to-grows c (w ∷ ws) g is =
      ap (λ l. data_to sends c ++ l) (data-append (w ∷ []) ws) ∙ sym (append_assoc (data_to sends c) (data_of (w ∷ [])) (data_of ws))
      ∙ ap (λ l. l ++ data_of ws) (data_to-step c w g.0 is.full) ∙ data_to-grows (move c w) ws g.1 (place_moves c w g.0 is)

  pub start_is : IsPlace start_at
  start_is = record { most = omega arith; full = λ e. refl; ended = λ e. cc; sent = λ e. cc }

  pub rounds_begin : (n m : ℕ) → n ≤ m → HasRest (rounds sends n) (rounds sends m)
  rounds_begin n zero le = let is : n ≡ zero = omega arith in rw is ([], refl)
  rounds_begin n (suc m) le = ⊎_elim
      (λ same. rw same ([], append-nil _))
      (λ ne. let before = rounds_begin n m (omega arith) in (
        before.0 ++ (payload_wire m (sends m) ++ (Safe m ∷ [])),
        sym (append_assoc (rounds sends n) before.0 _) ∙ ap (λ l. l ++ (payload_wire m (sends m) ++ (Safe m ∷ []))) before.1,
      ))
      (cases_eq n (suc m))

  pub pulses_begin : (n m : ℕ) → n ≤ m → HasRest (sent_pulses sends n) (sent_pulses sends m)
  pulses_begin n zero le = let is : n ≡ zero = omega arith in rw is ([], refl)
  pulses_begin n (suc m) le = ⊎_elim
      (λ same. rw same ([], append-nil _))
      (λ ne. let before = pulses_begin n m (omega arith) in (
        before.0 ++ sent_pulse m (sends m),
        sym (append_assoc (sent_pulses sends n) before.0 _) ∙
            ap (λ l. l ++ sent_pulse m (sends m)) before.1,
      ))
      (cases_eq n (suc m))
