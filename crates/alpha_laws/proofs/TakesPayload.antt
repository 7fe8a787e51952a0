-- A port keeps its link as its node takes a payload.
use Rattle.std.proofs.Common.{◌≡◌, ℕ, suc, Bool, true, false, List, [], ◌∷◌, ◌++◌, Option, Some, refl, sym, ap, ◌∙◌, append-nil, arith, ne_eqb}
use Rattle.wires.specs.declared.wire.Wire.{Wire}
use Rattle.wires.specs.declared.wire.Wire.TheVariants.{Payload, Ack}
use Rattle.alpha_core.specs.View.{Port}
use Rattle.alpha_core.specs.Alpha.{emit}
use Rattle.wires.proofs.Wires.{acks-append, payloads-append}
use Rattle.alpha_laws.proofs.Cursor.{moves-append, follows-more}
use Rattle.alpha_laws.proofs.Kept.{same_at}
use Rattle.alpha_laws.proofs.Slots.{slot_kept, slot_filled, other_slot, unpaid, more_taken, more_at}
use Rattle.alpha_laws.specs.Position.{start_at, Allows}
use Rattle.alpha_laws.specs.Kept.{taken_to, PortKept}

module _ {M : Type 0} {last : ℕ} {own other : ℕ → Option M} {p : ℕ} {said : Bool} {port : Port M} {emitted taken : List (Wire M)}
    (kept : PortKept last own other p said port emitted taken) where
  -- a payload of this pulse is taken
  pub takes_payload : (x : M) → Allows other last (taken_to p port) (Payload p x) → port.safe ≡ false
      → PortKept last own other p said (emit (Ack p) (record port { present = Some x })) (emitted ++ (Ack p ∷ [])) (taken ++ (Payload p x ∷ []))
  takes_payload x allowed first = record {
    emits = follows-more own last start_at emitted (Ack p ∷ []) kept.emits (rw kept.emitted_at (ne_eqb p last (λ e. let lt = allowed.4 in omega arith)), tt);
    emitted_at = moves-append start_at emitted (Ack p ∷ []) ∙ kept.emitted_at;
    takes = more_taken kept (Payload p x) allowed;
    taken_at = more_at kept (Payload p x) allowed ∙ same_at _ _ _ _ _ _ refl (rw first refl) refl;
    acknowledges = acks-append emitted (Ack p ∷ []) ∙ ap (λ l. l ++ (p ∷ [])) kept.acknowledges ∙ sym (payloads-append taken (Payload p x ∷ []));
    acks_are = acks-append taken (Payload p x ∷ []) ∙ append-nil _ ∙ kept.acks_are;
    waiting = kept.waiting;
    quiet = kept.quiet;
    before_last = kept.before_last;
    within = kept.within;
    nested = kept.nested;
    present = slot_filled p taken x (unpaid kept p (let is = allowed.1 in omega arith) (λ e. allowed.3));
    early = kept.early ∙ slot_kept (suc p) taken (Payload p x) (other_slot (suc p) p x (λ e. omega arith));
  }

  -- and of the next one
  pub takes_early_payload : (x : M) → Allows other last (taken_to p port) (Payload (suc p) x) → port.safe ≡ true → port.early_safe ≡ false
      → PortKept last own other p said (emit (Ack (suc p)) (record port { early = Some x })) (emitted ++ (Ack (suc p) ∷ [])) (taken ++ (Payload (suc p) x ∷ []))
  takes_early_payload x allowed first next = record {
    emits = follows-more own last start_at emitted (Ack (suc p) ∷ []) kept.emits (
      rw kept.emitted_at (ne_eqb p last (λ e. let lt = allowed.4 in omega arith)),
      tt,
    );
    emitted_at = moves-append start_at emitted (Ack (suc p) ∷ []) ∙ kept.emitted_at;
    takes = more_taken kept (Payload (suc p) x) allowed;
    taken_at = more_at kept (Payload (suc p) x) allowed ∙ same_at _ _ _ _ _ _ refl (rw (first, next) refl) refl;
    acknowledges = acks-append emitted (Ack (suc p) ∷ []) ∙ ap (λ l. l ++ (suc p ∷ [])) kept.acknowledges ∙
        sym (payloads-append taken (Payload (suc p) x ∷ []));
    acks_are = acks-append taken (Payload (suc p) x ∷ []) ∙ append-nil _ ∙ kept.acks_are;
    waiting = kept.waiting;
    quiet = kept.quiet;
    before_last = kept.before_last;
    within = kept.within;
    nested = kept.nested;
    present = kept.present ∙ slot_kept p taken (Payload (suc p) x) (other_slot p (suc p) x (λ e. omega arith));
    early = slot_filled (suc p) taken x (unpaid kept (suc p) (let is = allowed.1 in omega arith) (λ e. allowed.3));
  }
