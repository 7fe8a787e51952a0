-- Legal lists are in order, and a close completes them.
use Rattle.std.proofs.Common.{◌≡◌, ℕ, suc, zero, ◌+◌, ◌<◌, ◌≤◌, false, List, [], ◌∷◌, ◌++◌, Option, Some, None, refl, sym, ap}
use Rattle.std.proofs.Common.{◌∙◌, arith, subst, ◌⊎◌, inl, inr, ⊎_elim, append_assoc, append-nil}
use Rattle.std.specs.Prelude.{Contains, is_some}
use Rattle.wires.specs.declared.wire.Wire.{Wire}
use Rattle.wires.specs.declared.wire.Wire.TheVariants.{Payload, Ack, Safe, Close}
use Rattle.wires.specs.Wires.{data_of, acks_of, payloads_of, safes_of}
use Rattle.wires.specs.Streams.{payload_wire, sent_pulse, rounds, stream, sent_pulses, Legal}
use Rattle.wires.proofs.Wires.{acks-append, begins_rest, data-append, legal-front}
use Rattle.alpha_laws.specs.Position.{Position, move, moves, start_at, Allows, Follows}
use Rattle.alpha_laws.proofs.Complete.{data-payloads}
use Rattle.alpha_laws.proofs.Cursor.{moves-append, follows-front, follows-rest, follows-more, payloads_to-grows}
use Rattle.alpha_laws.proofs.Listed.{has_split, pulses_below}
use Rattle.link_rule.specs.Order.{MayFollow, IsInOrder}
use Rattle.alpha_laws.specs.Simulates.{IsComplete}

-- after n safes
abbrev at_pulse : ℕ → Position
at_pulse n = record { safes = n; paid = false; closed = false }

-- pulses rise
module _ {M : Type 0} (answers : ℕ → Option M) where
  cut_one : (ps xs rest : List ℕ) (q n : ℕ) (o : Option M) → ps ++ sent_pulse n o ≡ xs ++ (q ∷ rest) → ((ys : List ℕ) × (ps ≡ xs ++ (q ∷ ys))) ⊎ ((xs ≡ ps) ×
      (q ≡ n))
  cut_one ps xs rest q n None e = inl (rest, sym (append-nil ps) ∙ e)
  cut_one [] [] rest q n (Some x) e = let same : n ≡ q = cc in inr (refl, sym same)
  cut_one [] (y ∷ []) rest q n (Some x) e = absurd cc
  cut_one [] (y ∷ z ∷ ys) rest q n (Some x) e = absurd cc
  cut_one (a ∷ ps) [] rest q n (Some x) e = let same : a ≡ q = cc in inl (ps, ap (λ y. y ∷ ps) same)
  cut_one (a ∷ ps) (y ∷ ys) rest q n (Some x) e =
      let same : a ≡ y = cc in
      let tail : ps ++ (n ∷ []) ≡ ys ++ (q ∷ rest) = cc in
      ⊎_elim (λ (c : (zs : List ℕ) × (ps ≡ ys ++ (q ∷ zs))). inl (c.0, rw (same, c.1) refl)) (λ (c : (ys ≡ ps) × (q ≡ n)). inr (rw (same, c.0) refl, c.1))
      (cut_one ps ys rest q n (Some x) tail)

  pub pulses-rise : (n : ℕ) (xs rest : List ℕ) (q : ℕ) → sent_pulses answers n ≡ xs ++ (q ∷ rest) → (q < n) × ((r : ℕ) → Contains xs r → r < q)
  pulses-rise zero [] rest q e = absurd cc
  pulses-rise zero (x ∷ xs) rest q e = absurd cc
  pulses-rise (suc n) xs rest q e = ⊎_elim
      (λ (c : (ys : List ℕ) × (sent_pulses answers n ≡ xs ++ (q ∷ ys))). let less = pulses-rise n xs c.0 q c.1 in let lt = less.0 in (omega arith, less.1))
      (λ (c : (xs ≡ sent_pulses answers n) × (q ≡ n)). let is = c.1 in
      (omega arith, λ r in_xs. let lt = pulses_below answers n r (subst (λ l. Contains l r) c.0 in_xs) in omega arith))
      (cut_one (sent_pulses answers n) xs rest q n (answers n) e)

-- the stream goes by the cursor
module _ {M : Type 0} (sends : ℕ → Option M) (last : ℕ) where
  round-goes : (n : ℕ) (o : Option M) → sends n ≡ o → n < last → Follows sends last (at_pulse n) (payload_wire n o ++ (Safe n ∷ [])) ×
      (moves (at_pulse n) (payload_wire n o ++ (Safe n ∷ [])) ≡ at_pulse (suc n))
  round-goes n None is lt = (((refl, refl, sym (ap (λ o. is_some o) is), lt), tt), refl)
  round-goes n (Some x) is lt = (((refl, refl, is, refl, lt), ((refl, refl, sym (ap (λ o. is_some o) is), lt), tt)), refl)

  rounds-go : (n : ℕ) → n ≤ last → Follows sends last start_at (rounds sends n) × (moves start_at (rounds sends n) ≡ at_pulse n)
  rounds-go zero le = (tt, refl)
  rounds-go (suc n) le =
      let before = rounds-go n (omega arith) in
      let tail = payload_wire n (sends n) ++ (Safe n ∷ []) in
      let here = round-goes n (sends n) refl (omega arith) in (
        follows-more sends last start_at (rounds sends n) tail before.0 (subst (λ c. Follows sends last c tail) (sym before.1) here.0),
        moves-append start_at (rounds sends n) tail ∙ ap (λ c. moves c tail) before.1 ∙ here.1,
      )

  stream-goes : Follows sends last start_at (stream sends last)
  stream-goes = let all = rounds-go last (omega arith) in follows-more sends last start_at (rounds sends last) (Close ∷ []) all.0
      (subst (λ c. Follows sends last c (Close ∷ [])) (sym all.1) ((refl, refl), tt))

module _ {M : Type 0} where
  data-safes : (c : Position) (ws : List (Wire M)) → (moves c (data_of ws)).safes ≡ c.safes + safes_of ws
  data-safes c [] = omega arith
  data-safes c (Payload q x ∷ ws) = data-safes (move c (Payload q x)) ws
  data-safes c (Ack q ∷ ws) = data-safes c ws
  data-safes c (Safe q ∷ ws) = let more = data-safes (move {M = M} c (Safe q)) ws in omega arith
  data-safes c (Close ∷ ws) = data-safes (move {M = M} c Close) ws

count_safes : {M : Type 0} (ws : List (Wire M)) → (moves start_at (data_of ws)).safes ≡ safes_of ws
count_safes ws = let all = data-safes start_at ws in omega arith

module _ {M : Type 0} (last : ℕ) (sends answers : ℕ → Option M) where
  pub nothing_after_close : (before after : List (Wire M)) (w : Wire M) → Legal last sends answers (before ++ (w ∷ after)) → Contains before Close → ⊥
  nothing_after_close before after w legal has =
      let cut = has_split before Close has in
      let ends = legal.close cut.0 (cut.1 ++ (w ∷ after)) (ap (λ l. l ++ (w ∷ after)) cut.2 ∙ append_assoc cut.0 (Close ∷ cut.1) (w ∷ after)) in
      some cut.1 ends.0
    where
      some : (ys : List (Wire M)) → ys ++ (w ∷ after) ≡ [] → ⊥
      some [] e = cc
      some (y ∷ ys) e = cc

  -- where a wire that isn't an acknowledgement stands, the cursor allows it
  allowed : (before after : List (Wire M)) (w : Wire M) → data_of (w ∷ after) ≡ w ∷ data_of after → Legal last sends answers (before ++ (w ∷ after)) →
      Allows sends last (moves start_at (data_of before)) w
  allowed before after w is legal =
      let b = begins_rest (data_of (before ++ (w ∷ after))) (stream sends last) legal.wires in
      let parts : data_of before ++ (w ∷ (data_of after ++ b.0)) ≡ stream sends last =
      sym (append_assoc (data_of before) (w ∷ data_of after) b.0) ∙ ap (λ l. (data_of before ++ l) ++ b.0) (sym is) ∙
      ap (λ l. l ++ b.0) (sym (data-append before (w ∷ after))) ∙ b.1 in
      (follows-rest sends last start_at (data_of before) (w ∷ (data_of after ++ b.0)) (subst (λ l. Follows sends last start_at l) (sym parts)
      (stream-goes sends last))).0

  -- the payloads before are those of the pulses passed
  payloads-passed : (before after : List (Wire M)) (q : ℕ) (x : M) → Legal last sends answers (before ++ (Payload q x ∷ after)) →
      Contains (payloads_of before) q → ⊥
  payloads-passed before after q x legal has =
      let a = allowed before after (Payload q x) refl legal in
      let c = moves start_at (data_of before) in
      let unpaid : c.paid ≡ false = a.3 in
      let front : Follows sends last start_at (data_of before) = before_goes in
      let all : payloads_of before ≡ sent_pulses sends c.safes ++ [] = sym (data-payloads before) ∙
      payloads_to-grows sends last start_at (data_of before) front ∙ rw unpaid refl in
      let lt = pulses_below sends c.safes q (subst (λ l. Contains l q) (all ∙ append-nil _) has) in
      let is : q ≡ c.safes = a.1 in
      absurd (omega arith)
    where
      before_goes : Follows sends last start_at (data_of before)
      before_goes =
          let front = legal-front last sends answers before (Payload q x ∷ after) legal in
          let b = begins_rest (data_of before) (stream sends last) front.wires in
          follows-front sends last start_at (data_of before) b.0 (subst (λ l. Follows sends last start_at l) (sym b.1) (stream-goes sends last))

  may_follow : (before after : List (Wire M)) (w : Wire M) → Legal last sends answers (before ++ (w ∷ after)) → MayFollow last before w
  may_follow before after (Payload q x) legal =
      let a = allowed before after (Payload q x) refl legal in
      (a.1 ∙ count_safes before, a.4, payloads-passed before after q x legal)
  may_follow before after (Ack q) legal =
      let b = begins_rest (acks_of (before ++ (Ack q ∷ after))) (sent_pulses answers last) legal.acks in
      pulses-rise answers last (acks_of before) (acks_of after ++ b.0) q (sym b.1 ∙ ap (λ l. l ++ b.0) (acks-append before (Ack q ∷ after)) ∙
      append_assoc (acks_of before) (q ∷ acks_of after) b.0)
  may_follow before after (Safe q) legal =
      let a = allowed before after (Safe q) refl legal in
      (a.1 ∙ count_safes before, a.3)
  may_follow before after Close legal =
      let a = allowed before after Close refl legal in
      sym (count_safes before) ∙ a.1

  pub legal-in_order : (ws : List (Wire M)) → Legal last sends answers ws → IsInOrder last ws
  legal-in_order ws legal before w after e =
      let here = subst (λ l. Legal last sends answers l) e legal in
      (nothing_after_close before after w here, may_follow before after w here)

  pub close-completes : (ws : List (Wire M)) → Legal last sends answers ws → Contains ws Close → IsComplete last sends answers ws
  close-completes ws legal has =
      let cut = has_split ws Close has in
      let ends = legal.close cut.0 cut.1 cut.2 in
      (ends.1, ends.2)

  pub nothing-follows : (ws rest : List (Wire M)) → Legal last sends answers (ws ++ rest) → Contains ws Close → rest ≡ []
  nothing-follows ws [] legal has = refl
  nothing-follows ws (w ∷ rest) legal has = absurd (nothing_after_close ws rest w legal has)
