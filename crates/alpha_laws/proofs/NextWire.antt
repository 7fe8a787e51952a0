-- The next wire of a link may come, and is due at the end that takes it.
use Rattle.std.proofs.Common.{◌≡◌, ℕ, suc, ◌+◌, ◌*◌, ◌<◌, ◌≤◌, Bool, true, false, List, [], ◌∷◌, ◌++◌, Option, Some, None, refl, sym, ap, ◌∙◌, append_assoc}
use Rattle.std.proofs.Common.{arith, ⊎_elim, ne_eqb, eq-eqb, lt-ltb, le-leb}
use Rattle.std.specs.Prelude.{if◌then◌else◌, nat_eq}
use Rattle.std.proofs.lemmas.Bool.{cases_eq, eqb-true}
use Rattle.std.proofs.lemmas.List.{append_cancel_left}
use Rattle.wires.specs.declared.wire.Wire.{Wire}
use Rattle.wires.specs.declared.wire.Wire.TheVariants.{Payload, Ack, Safe, Close}
use Rattle.wires.specs.Wires.{acks_of, payloads_of}
use Rattle.wires.specs.Streams.{sent_pulse, sent_pulses}
use Rattle.alpha_core.specs.View.{Port, bit, safes_at, is_paid}
use Rattle.alpha_core.specs.Table.{horizon, is_due}
use Rattle.alpha_core.proofs.Due.{paid-is}
use Rattle.wires.proofs.Wires.{acks-append, payloads-append}
use Rattle.alpha_laws.proofs.Cursor.{place, place-grows, closed-ends}
use Rattle.alpha_laws.proofs.Slots.{bit_le}
use Rattle.alpha_laws.proofs.Edge.{rest_goes, rest_ends, place_most, tells, near'}
use Rattle.alpha_laws.specs.Position.{move, moves, Allows, Follows}
use Rattle.alpha_laws.specs.Kept.{taken_to, PortKept}

module _ {M : Type 0} {last : ℕ} {there back : ℕ → Option M} {p : ℕ} {said : Bool} {port : Port M} {emitted taken : List (Wire M)}
    (sender : PortKept last there back p said port emitted taken)
    {p' : ℕ} {said' : Bool} {port' : Port M} {emitted' taken' : List (Wire M)} (taker : PortKept last back there p' said' port' emitted' taken')
    (flight flight' : List (Wire M)) (whole : taken' ++ flight ≡ emitted) (whole' : taken ++ flight' ≡ emitted') where
  -- the pulse of a wire that comes next is one that the taker may take
  horizon_is : horizon last p' said' ≡ p' + bit said'
  horizon_is = cases said' taker.before_last
    where
      cases : (s : Bool) → (s ≡ true → p' < last) → horizon last p' s ≡ p' + bit s
      cases true e = rw (lt-ltb p' last (e refl)) (omega arith)
      cases false e = omega arith

  module _ (w : Wire M) (more : List (Wire M)) (next : flight ≡ w ∷ more) where
    goes : Follows there last (taken_to p' port') (w ∷ more)
    goes = rw next at (rest_goes sender taker flight flight' whole whole')

    pub allowed : Allows there last (taken_to p' port') w
    allowed = goes.0

    after : place (move (taken_to p' port') w) ≤ 2 * p + 1 + bit said
    after = omega (
      arith,
      place-grows there last (move (taken_to p' port') w) more goes.1,
      ap place (ap (λ l. moves (taken_to p' port') l) (sym next) ∙ rest_ends sender taker flight flight' whole whole'),
      place_most sender taker flight flight' whole whole' said (there p),
    )

  pub due_safe : (q : ℕ) (more : List (Wire M)) → flight ≡ Safe q ∷ more → is_due {M = M} last p' said' port' (Safe q) ≡ true
  due_safe q more next =
      let ok = allowed (Safe q) more next in
      let past = after (Safe q) more next in
      let is : q ≡ safes_at p' port' = ok.1 in
      rw (
        ok.0,
        eq-eqb q (safes_at p' port') is,
        horizon_is,
        le-leb q (p' + bit said') (omega (
          arith,
          past,
          near' sender taker flight flight' whole whole',
          is,
          bit_le said,
        )),
        lt-ltb q last ok.3,
      ) refl

  pub due_payload : (q : ℕ) (x : M) (more : List (Wire M)) → flight ≡ Payload q x ∷ more → is_due last p' said' port' (Payload q x) ≡ true
  due_payload q x more next =
      let ok = allowed (Payload q x) more next in
      let past = after (Payload q x) more next in
      let is : q ≡ safes_at p' port' = ok.1 in
      let unpaid : is_paid port' ≡ false = paid-is port' taker.nested ∙ ok.3 in
      rw (
        ok.0,
        eq-eqb q (safes_at p' port') is,
        horizon_is,
        le-leb q (p' + bit said') (omega (
          arith,
          past,
          near' sender taker flight flight' whole whole',
          is,
          bit_le said,
        )),
        lt-ltb q last ok.4,
        unpaid,
      ) refl

  pub due_ack : (q : ℕ) (more : List (Wire M)) → flight ≡ Ack q ∷ more → (q ≡ p') × (port'.waits ≡ true)
  due_ack q more next =
      let rest = acks_of more ++ payloads_of flight' in
      let mine = if port'.waits then [] else sent_pulse p' (back p') in
      one_owed port'.waits (back p') rest
      (append_cancel_left (sent_pulses back p') _ _
      (sym (append_assoc (sent_pulses back p') mine (q ∷ rest)) ∙ ap (λ l. l ++ (q ∷ rest)) (sym taker.acks_are)
      ∙ sym (append_assoc (acks_of taken') (q ∷ acks_of more) (payloads_of flight'))
      ∙ ap (λ l. l ++ payloads_of flight') (ap (λ l. acks_of taken' ++ acks_of l) (sym next) ∙ sym (acks-append taken' flight) ∙ ap acks_of whole ∙
      sender.acknowledges)
      ∙ sym (payloads-append taken flight') ∙ ap payloads_of whole' ∙ tells taker))
    where
      one_owed : (w : Bool) (o : Option M) (rest : List ℕ) → (if w then [] else sent_pulse p' o) ++ (q ∷ rest) ≡ sent_pulse p' o → (q ≡ p') × (w ≡ true)
      one_owed true None rest e = absurd cc
      one_owed true (Some x) rest e = (cc, refl)
      one_owed false None rest e = absurd cc
      one_owed false (Some x) rest e = absurd cc

  pub due_close : (more : List (Wire M)) → flight ≡ Close ∷ more → is_due {M = M} last p' said' port' Close ≡ true
  due_close more next =
      let ok = allowed Close more next in
      let none : more ≡ [] = closed-ends there last (move {M = M} (taken_to p' port') Close) more refl (goes Close more next).1 in
      let ends : true ≡ nat_eq p last = ap (λ l. (moves (taken_to p' port') (Close ∷ l)).closed) (sym none) ∙
      ap (λ l. (moves (taken_to p' port') l).closed) (sym next)
      ∙ ap (λ c. c.closed) (rest_ends sender taker flight flight' whole whole') in
      let at_last : p ≡ last = eqb-true p last (sym ends) in
      rw (ok.0, eq-eqb (safes_at p' port') last ok.1) (⊎_elim
      (λ same. rw (eq-eqb p' last same) refl)
      (λ ne.
      let before : p' < last = omega (arith, ne, taker.within) in
      let spoken : said' ≡ true = must said' (omega (arith, near' sender taker flight flight' whole whole', at_last, before)) in
      let edge : suc p' ≡ last = omega (arith, near' sender taker flight flight' whole whole', at_last, before, bit_le said') in
      rw (ne_eqb p' last ne, spoken, eq-eqb (suc p') last edge) refl)
      (cases_eq p' last))
    where
      must : (b : Bool) → 0 < bit b → b ≡ true
      must true lt = refl
      must false lt = absurd (omega arith)

  pub due : (w : Wire M) (more : List (Wire M)) → flight ≡ w ∷ more → is_due last p' said' port' w ≡ true
  due (Payload q x) more next = due_payload q x more next
  due (Ack q) more next =
      let ok = allowed (Ack q) more next in
      let both = due_ack q more next in
      rw (ok, eq-eqb q p' both.0, both.1) refl
  due (Safe q) more next = due_safe q more next
  due Close more next = due_close more next
