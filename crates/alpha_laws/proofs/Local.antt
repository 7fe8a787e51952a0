-- A node by itself: a wire that is due, on a list that stays legal, is one that may come.
use Rattle.std.proofs.Common.{◌≡◌, ℕ, suc, ◌<◌, Bool, true, false, List, [], ◌∷◌, ◌++◌, Option, Some, None, refl, sym, ap, ◌∙◌, append_assoc, append-nil, arith}
use Rattle.std.proofs.Common.{subst, ⊎_elim}
use Rattle.std.specs.Prelude.{is_some}
use Rattle.std.proofs.lemmas.Bool.{cases_Bool, and_parts, eqb-true, ltb-true, not-true}
use Rattle.std.proofs.lemmas.List.{append_cancel_left}
use Rattle.wires.specs.declared.wire.Wire.{Wire}
use Rattle.wires.specs.declared.wire.Wire.TheVariants.{Payload, Ack, Safe, Close}
use Rattle.wires.specs.Wires.{data_of}
use Rattle.wires.specs.Streams.{payload_wire, rounds, stream, Legal}
use Rattle.alpha_core.specs.View.{Port, safes_at, is_paid}
use Rattle.alpha_core.specs.Table.{is_due}
use Rattle.alpha_core.proofs.Due.{paid-is}
use Rattle.wires.proofs.Wires.{begins_rest, data-append}
use Rattle.alpha_laws.proofs.Shown.{data_to, data_to-grows, start_is, rounds_begin}
use Rattle.alpha_laws.proofs.Lawful.{place_taken}
use Rattle.alpha_laws.specs.Position.{Position, start_at, Allows}
use Rattle.alpha_laws.specs.Kept.{paid_at, taken_to, PortKept}

module _ {M : Type 0} (sends : ℕ → Option M) (last : ℕ) where
  next_data : (s : ℕ) (ws : List (Wire M)) → s < last → rounds sends s ++ ws ≡ stream sends last → (tail : List (Wire M)) ×
      (ws ≡ payload_wire s (sends s) ++ (Safe s ∷ tail))
  next_data s ws lt e =
      let more = rounds_begin sends last (suc s) last lt in
      let here = payload_wire s (sends s) in (
        more.0 ++ (Close ∷ []),
        append_cancel_left (rounds sends s) _ _
            (e ∙ ap (λ l. l ++ (Close ∷ [])) (sym more.1 ∙ append_assoc (rounds sends s) (here ++ (Safe s ∷ [])) more.0) ∙
            append_assoc (rounds sends s) ((here ++ (Safe s ∷ [])) ++ more.0) (Close ∷ [])
            ∙ ap (λ l. rounds sends s ++ l) (append_assoc (here ++ (Safe s ∷ [])) more.0 (Close ∷ []) ∙
            append_assoc here (Safe s ∷ []) (more.0 ++ (Close ∷ [])))),
      )

  plain_shown : (c : Position) → c.paid ≡ false → c.closed ≡ false → data_to sends c ≡ rounds sends c.safes
  plain_shown c unpaid open' = rw (unpaid, open') (append-nil _)

  payload_is : (s : ℕ) (o : Option M) (x : M) (rest tail : List (Wire M)) → Payload s x ∷ rest ≡ payload_wire s o ++ (Safe s ∷ tail) → o ≡ Some x
  payload_is s None x rest tail e = absurd cc
  payload_is s (Some y) x rest tail e = cc

  no_payload : (s : ℕ) (o : Option M) (rest tail : List (Wire M)) → Safe s ∷ rest ≡ payload_wire s o ++ (Safe s ∷ tail) → false ≡ is_some o
  no_payload s None rest tail e = refl
  no_payload s (Some y) rest tail e = absurd cc

module _ {M : Type 0} {last : ℕ} {own other : ℕ → Option M} {p : ℕ} {said : Bool} {port : Port M} {emitted taken : List (Wire M)}
    (kept : PortKept last own other p said port emitted taken) where
  abbrev at : Position
  at = taken_to p port

  data_taken : data_of taken ≡ data_to other at
  data_taken = data_to-grows other last start_at taken kept.takes (start_is other last) ∙ ap (λ c. data_to other c) kept.taken_at

  pub may_come : (w : Wire M) → Legal last other own (taken ++ (w ∷ [])) → is_due last p said port w ≡ true → Allows other last at w
  may_come (Payload q x) legal due =
      let a = and_parts _ _ due in
      let b = and_parts _ _ a.0 in
      let d = and_parts _ _ (and_parts _ _ b.0).0 in
      let open' : port.closed ≡ false = not-true port.closed d.0 in
      let is : q ≡ safes_at p port = eqb-true q (safes_at p port) d.1 in
      let lt : q < last = ltb-true q last b.1 in
      let unpaid : paid_at port ≡ false = sym (paid-is port kept.nested) ∙ not-true (is_paid port) a.1 in
      let begins = begins_rest _ _ legal.wires in
      let plain : data_to other at ≡ rounds other (safes_at p port) = plain_shown other last at unpaid open' in
      let whole : rounds other (safes_at p port) ++ (Payload q x ∷ begins.0) ≡ stream other last =
      sym (ap (λ l. l ++ (Payload q x ∷ begins.0)) (data_taken ∙ plain)) ∙ sym (append_assoc (data_of taken) (Payload q x ∷ []) begins.0) ∙
      ap (λ l. l ++ begins.0) (sym (data-append taken (Payload q x ∷ []))) ∙ begins.1 in
      let next = next_data other last (safes_at p port) (Payload q x ∷ begins.0) (omega arith) whole in (
        open',
        is,
        ap other is ∙ payload_is other last (safes_at p port) (other (safes_at p port)) x begins.0 next.0
            (subst (λ r. Payload r x ∷ begins.0 ≡ payload_wire (safes_at p port) (other (safes_at p port)) ++ (Safe (safes_at p port) ∷ next.0)) is next.1),
        unpaid,
        lt,
      )
  may_come (Ack q) legal due = not-true port.closed (and_parts _ _ (and_parts _ _ due).0).0
  may_come (Safe q) legal due =
      let b = and_parts _ _ due in
      let d = and_parts _ _ (and_parts _ _ b.0).0 in
      let open' : port.closed ≡ false = not-true port.closed d.0 in
      let is : q ≡ safes_at p port = eqb-true q (safes_at p port) d.1 in
      let lt : q < last = ltb-true q last b.1 in
      let begins = begins_rest _ _ legal.wires in
      let same : paid_at port ≡ is_some (other (safes_at p port)) = ⊎_elim
      (λ paid. paid ∙ sym ((place_taken kept).sent paid))
      (λ unpaid.
      let plain : data_to other at ≡ rounds other (safes_at p port) = plain_shown other last at unpaid open' in
      let whole : rounds other (safes_at p port) ++ (Safe q ∷ begins.0) ≡ stream other last =
      sym (ap (λ l. l ++ (Safe q ∷ begins.0)) (data_taken ∙ plain)) ∙ sym (append_assoc (data_of taken) (Safe q ∷ []) begins.0) ∙
      ap (λ l. l ++ begins.0) (sym (data-append taken (Safe q ∷ []))) ∙ begins.1 in
      let next = next_data other last (safes_at p port) (Safe q ∷ begins.0) (omega arith) whole in
      unpaid ∙ no_payload other last (safes_at p port) (other (safes_at p port)) begins.0 next.0
      (subst (λ r. Safe r ∷ begins.0 ≡ payload_wire (safes_at p port) (other (safes_at p port)) ++ (Safe (safes_at p port) ∷ next.0)) is next.1))
      (cases_Bool (paid_at port)) in
      (open', is, same ∙ ap (λ r. is_some (other r)) (sym is), lt)
  may_come Close legal due =
      let d = and_parts _ _ (and_parts _ _ due).0 in
      (not-true port.closed d.0, eqb-true (safes_at p port) last d.1)
