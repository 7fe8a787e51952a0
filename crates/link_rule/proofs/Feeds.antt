-- A check fed one wire more.
use Rattle.std.proofs.Common.{◌≡◌, ℕ, ◌+◌, ◌<◌, ◌≤◌, Bool, true, false, List, [], ◌∷◌, ◌++◌, refl, sym, ap, ◌∙◌, arith, subst}
use Rattle.std.proofs.Common.{◌⊎◌, ⊎_elim, append-nil, lt-ltb}
use Rattle.std.specs.Prelude.{Contains, IsTrue, ◌↔◌, ◌&&◌, not, MatchBool}
use Rattle.std.proofs.lemmas.List.Elements.{Contains-append_left, Contains-push}
use Rattle.std.proofs.lemmas.Bool.{eqb-true, eq-eqb, ltb-true, leb-true, le-leb, and_parts, and_from}
use Rattle.wires.specs.declared.wire.Wire.{Wire}
use Rattle.wires.specs.declared.wire.Wire.TheVariants.{Payload, Ack, Safe, Close}
use Rattle.wires.specs.Wires.{acks_of, payloads_of, safes_of}
use Rattle.wires.proofs.Wires.{acks-append, payloads-append}
use Rattle.link_rule.specs.Order.{MayFollow, IsInOrder}
use Rattle.link_rule.specs.Progress.{Progress, HasCome, WasFed, at_start, may_come, goes_on, advanced, after_wire}
use Rattle.std.proofs.lemmas.List.{map-append}
use Rattle.wires.specs.declared.stamped.Stamped.{Stamped}
use Rattle.wires.specs.StampedWires.{StampsRise, wires_of}
use Rattle.wires.proofs.StampedWires.{last_more, rise_last, rise_more}
use Rattle.link_rule.proofs.Orders.{contains_nil, contains_snoc, order-more, order-last, order-nil, safes-append}

new_come : {M : Type 0} (last : ℕ) → HasCome {M = M} (at_start last) []
new_come {M} last = record {
  order = order-nil {M = M} last;
  safes = refl;
  paid = ((λ e. absurd cc), λ c. absurd (contains_nil 0 c));
  payloads = λ q c. absurd (contains_nil q c);
  acks = λ q. ((λ le r c. absurd (contains_nil r c)), λ all. omega arith);
  closed = ((λ e. absurd cc), λ c. absurd (contains_nil {A = Wire M} Close c));
}

not_true : (b : Bool) → not b ≡ true → b ≡ true → ⊥
not_true true e f = absurd cc
not_true false e f = absurd cc

no_true : (b : Bool) → (b ≡ true → ⊥) → not b ≡ true
no_true true n = absurd (n refl)
no_true false n = refl

module _ {M : Type 0} (p : Progress) (ws : List (Wire M)) (fed : HasCome p ws) where
  -- what the check allows may follow
  may : (w : Wire M) → may_come p w ≡ true → MayFollow p.last ws w
  may (Payload q x) e =
      let e1 = and_parts _ _ e in
      let e2 = and_parts _ _ e1.1 in
      let same = eqb-true q p.safes e1.0 in
      (same ∙ fed.safes, ltb-true q p.last e2.1, λ c. not_true p.paid e2.0 (fed.paid.1 (subst (λ n. Contains (payloads_of ws) n) same c)))
  may (Ack q) e = let e1 = and_parts _ _ e in (ltb-true q p.last e1.1, (fed.acks q).0 (leb-true p.next_ack q e1.0))
  may (Safe q) e = let e1 = and_parts _ _ e in (eqb-true q p.safes e1.0 ∙ fed.safes, ltb-true q p.last e1.1)
  may Close e = sym fed.safes ∙ eqb-true p.safes p.last e

  may_not : (w : Wire M) → MayFollow p.last ws w → may_come p w ≡ true
  may_not (Payload q x) m =
      let same : q ≡ p.safes = m.0 ∙ sym fed.safes in
      and_from _ _ (eq-eqb q p.safes same) (and_from _ _ (no_true p.paid (λ e. m.2 (subst (λ n. Contains (payloads_of ws) n) (sym same) (fed.paid.0 e))))
      (lt-ltb q p.last m.1))
  may_not (Ack q) m = and_from _ _ (le-leb p.next_ack q ((fed.acks q).1 m.1)) (lt-ltb q p.last m.0)
  may_not (Safe q) m = and_from _ _ (eq-eqb q p.safes (m.0 ∙ sym fed.safes)) (lt-ltb q p.last m.1)
  may_not Close m = eq-eqb p.safes p.last (fed.safes ∙ m)

  pub goes-may : (w : Wire M) → goes_on p w ≡ true → (Contains ws Close → ⊥) × MayFollow p.last ws w
  goes-may w e = let e1 = and_parts _ _ e in ((λ c. not_true p.closed e1.0 (fed.closed.1 c)), may w e1.1)

  pub may-goes : (w : Wire M) → IsInOrder p.last (ws ++ w ∷ []) → goes_on p w ≡ true
  may-goes w h = let l = order-last p.last ws w h in and_from _ _ (no_true p.closed (λ e. l.0 (fed.closed.0 e))) (may_not w l.1)

  closed_same : (w : Wire M) → (w ≡ Close → ⊥) → IsTrue p.closed ↔ Contains (ws ++ w ∷ []) Close
  closed_same w other = (
    (λ e. Contains-append_left ws (w ∷ []) Close (fed.closed.0 e)),
    λ c. ⊎_elim fed.closed.1 (λ is. absurd (other is)) (contains_snoc ws w Close c),
  )

  -- what a wire leaves of the payloads and acknowledgements
  keeps_payloads : (w : Wire M) → payloads_of (w ∷ []) ≡ [] → payloads_of (ws ++ w ∷ []) ≡ payloads_of ws
  keeps_payloads w e = payloads-append ws (w ∷ []) ∙ ap (λ l. payloads_of ws ++ l) e ∙ append-nil _

  keeps_acks : (w : Wire M) → acks_of (w ∷ []) ≡ [] → acks_of (ws ++ w ∷ []) ≡ acks_of ws
  keeps_acks w e = acks-append ws (w ∷ []) ∙ ap (λ l. acks_of ws ++ l) e ∙ append-nil _

  keeps_safes : (w : Wire M) → safes_of (w ∷ []) ≡ 0 → safes_of ws ≡ safes_of (ws ++ w ∷ [])
  keeps_safes w e = let a = safes-append ws (w ∷ []) in omega arith

  pub fed_true : (w : Wire M) → goes_on p w ≡ true → HasCome (advanced p w) (ws ++ w ∷ [])
  fed_true (Payload q x) e =
      let w : Wire M = Payload q x in
      let g = goes-may w e in
      let m = g.1 in
      let is : payloads_of (ws ++ w ∷ []) ≡ payloads_of ws ++ q ∷ [] = payloads-append ws (w ∷ []) in
      let same : q ≡ p.safes = m.0 ∙ sym fed.safes in
      record {
        order = order-more p.last ws w fed.order g.0 m;
        safes = fed.safes ∙ keeps_safes w refl;
        paid = (
          (λ _. subst (λ l. Contains l p.safes) (sym is) (subst (λ n. Contains (payloads_of ws ++ q ∷ []) n) same (Contains-push (payloads_of ws) q))),
          λ _. refl,
        );
        payloads = λ r c. ⊎_elim (fed.payloads r) (λ (y : q ≡ r). omega arith) (contains_snoc (payloads_of ws) q r (subst (λ l. Contains l r) is c));
        acks = λ r. subst (λ l. (p.next_ack ≤ r) ↔ ((s : ℕ) → Contains l s → s < r)) (sym (keeps_acks w refl)) (fed.acks r);
        closed = closed_same w (λ y. absurd cc);
      }
  fed_true (Ack q) e =
      let w : Wire M = Ack q in
      let g = goes-may w e in
      let m = g.1 in
      let is : acks_of (ws ++ w ∷ []) ≡ acks_of ws ++ q ∷ [] = acks-append ws (w ∷ []) in
      record {
        order = order-more p.last ws w fed.order g.0 m;
        safes = fed.safes ∙ keeps_safes w refl;
        paid = subst (λ l. IsTrue p.paid ↔ Contains l p.safes) (sym (keeps_payloads w refl)) fed.paid;
        payloads = λ r c. fed.payloads r (subst (λ l. Contains l r) (keeps_payloads w refl) c);
        acks = λ r. (
          (λ le s c. ⊎_elim (λ y. let lt = m.1 s y in omega arith) (λ (y : q ≡ s). omega arith)
              (contains_snoc (acks_of ws) q s (subst (λ l. Contains l s) is c))),
          λ all. let lt = all q (subst (λ l. Contains l q) (sym is) (Contains-push (acks_of ws) q)) in omega arith,
        );
        closed = closed_same w (λ y. absurd cc);
      }
  fed_true (Safe q) e =
      let w : Wire M = Safe q in
      let g = goes-may w e in
      let m = g.1 in
      let more = safes-append ws (w ∷ []) in
      let same : q ≡ p.safes = m.0 ∙ sym fed.safes in
      record {
        order = order-more p.last ws w fed.order g.0 m;
        safes = ap (λ n. n + 1) m.0 ∙ sym more;
        paid = ((λ f. absurd cc), λ c. let le = fed.payloads (q + 1) (subst (λ l. Contains l (q + 1)) (keeps_payloads w refl) c) in absurd (omega arith));
        payloads = λ r c. let le = fed.payloads r (subst (λ l. Contains l r) (keeps_payloads w refl) c) in omega arith;
        acks = λ r. subst (λ l. (p.next_ack ≤ r) ↔ ((s : ℕ) → Contains l s → s < r)) (sym (keeps_acks w refl)) (fed.acks r);
        closed = closed_same w (λ y. absurd cc);
      }
  fed_true Close e =
      let w : Wire M = Close in
      let g = goes-may w e in
      record {
        order = order-more p.last ws w fed.order g.0 g.1;
        safes = fed.safes ∙ keeps_safes w refl;
        paid = subst (λ l. IsTrue p.paid ↔ Contains l p.safes) (sym (keeps_payloads w refl)) fed.paid;
        payloads = λ r c. fed.payloads r (subst (λ l. Contains l r) (keeps_payloads w refl) c);
        acks = λ r. subst (λ l. (p.next_ack ≤ r) ↔ ((s : ℕ) → Contains l s → s < r)) (sym (keeps_acks w refl)) (fed.acks r);
        closed = ((λ _. Contains-push ws w), λ _. refl);
      }

  pub feeds : (w : Wire M) (b : Bool) (now : Progress) → b ≡ goes_on p w → now ≡ after_wire p w →
      MatchBool b (HasCome now (ws ++ w ∷ [])) (IsInOrder p.last (ws ++ w ∷ []) → ⊥)
  feeds w true now e f = subst (λ n. HasCome n (ws ++ w ∷ [])) (sym (f ∙ rw (sym e) refl)) (fed_true w (sym e))
  feeds w false now e f = λ h. let yes = may-goes w h in absurd cc

-- what has come says nothing of stamps
restamped : {M : Type 0} (p : Progress) (s : ℕ) (ws : List (Wire M)) → HasCome p ws → HasCome record p { stamp = s } ws
restamped p s ws come = record {
  order = come.order;
  safes = come.safes;
  paid = come.paid;
  payloads = come.payloads;
  acks = come.acks;
  closed = come.closed;
}

module _ {M : Type 0} where
  pub new_fed : (last : ℕ) → WasFed {M = M} (at_start last) []
  new_fed last = record { come = new_come last; rise = tt; stamp = refl }

  -- a wire that goes on, with a stamp above the last one
  pub fed_more : (p now : Progress) (items : List (Stamped M)) (item : Stamped M) → WasFed p items → p.stamp < item.stamp → true ≡ goes_on p item.wire
      → now ≡ after_wire p item.wire → WasFed record now { stamp = item.stamp } (items ++ item ∷ [])
  fed_more p now items item fed above goes after = record {
    come = restamped now item.stamp (wires_of (items ++ item ∷ []))
        (subst (λ l. HasCome now l) (sym (map-append (λ x. x.wire) items (item ∷ []))) (feeds p (wires_of items) fed.come item.wire true now goes after));
    rise = rise_more 0 items item fed.rise (let is = fed.stamp in omega arith);
    stamp = sym (last_more 0 items item);
  }

  -- a wire that doesn't go on
  pub not_fed : (p now : Progress) (items : List (Stamped M)) (item : Stamped M) → WasFed p items → false ≡ goes_on p item.wire → now ≡ after_wire p item.wire
      → IsInOrder p.last (wires_of (items ++ item ∷ [])) → ⊥
  not_fed p now items item fed goes after order =
      feeds p (wires_of items) fed.come item.wire false now goes after
      (subst (λ l. IsInOrder p.last l) (map-append (λ x. x.wire) items (item ∷ [])) order)

  -- a stamp that isn't above the last one
  pub not_above : (p : Progress) (items : List (Stamped M)) (item : Stamped M) → WasFed p items → item.stamp ≤ p.stamp → StampsRise (items ++ item ∷ []) → ⊥
  not_above p items item fed le rise = let is = fed.stamp in let lt = rise_last 0 items item rise in absurd (omega arith)
