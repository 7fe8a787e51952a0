-- A port keeps its link as its node takes a safe, Close or an acknowledgement.
use Rattle.std.proofs.Common.{◌≡◌, ℕ, suc, Bool, true, false, List, [], ◌∷◌, ◌++◌, Option, Some, None, refl, sym, ap, ◌∙◌, append-nil, arith}
use Rattle.std.specs.Prelude.{is_some}
use Rattle.wires.specs.declared.wire.Wire.{Wire}
use Rattle.wires.specs.declared.wire.Wire.TheVariants.{Ack, Safe, Close}
use Rattle.wires.specs.Streams.{sent_pulse, sent_pulses}
use Rattle.alpha_core.specs.View.{Port}
use Rattle.wires.proofs.Wires.{acks-append, payloads-append}
use Rattle.alpha_laws.proofs.Kept.{same_at}
use Rattle.alpha_laws.proofs.Slots.{slot_kept, no_early_safe, no_early, more_taken, more_at}
use Rattle.alpha_laws.specs.Position.{Allows}
use Rattle.alpha_laws.specs.Kept.{taken_to, PortKept}

module _ {M : Type 0} {last : ℕ} {own other : ℕ → Option M} {p : ℕ} {said : Bool} {port : Port M} {emitted taken : List (Wire M)}
    (kept : PortKept last own other p said port emitted taken) where
  -- Safe q is taken, of this pulse
  pub takes_safe : (q : ℕ) → Allows other last (taken_to p port) (Safe q) → port.safe ≡ false
      → PortKept last own other p said (record port { safe = true }) emitted (taken ++ (Safe q ∷ []))
  takes_safe q allowed first = record {
    emits = kept.emits;
    emitted_at = kept.emitted_at;
    takes = more_taken kept (Safe q) allowed;
    taken_at = more_at kept (Safe q) allowed ∙ same_at _ _ _ _ _ _ (rw (first, no_early_safe kept first) (omega arith)) (rw (
      no_early_safe kept first,
      no_early kept first,
    ) refl) refl;
    acknowledges = kept.acknowledges ∙ sym (payloads-append taken (Safe q ∷ []) ∙ append-nil _);
    acks_are = acks-append taken (Safe q ∷ []) ∙ append-nil _ ∙ kept.acks_are;
    waiting = kept.waiting;
    quiet = kept.quiet;
    before_last = kept.before_last;
    within = kept.within;
    nested = λ e. refl;
    present = kept.present ∙ slot_kept p taken (Safe q) refl;
    early = kept.early ∙ slot_kept (suc p) taken (Safe q) refl;
  }

  -- and of the next one
  pub takes_early_safe : (q : ℕ) → Allows other last (taken_to p port) (Safe q) → port.safe ≡ true → port.early_safe ≡ false
      → PortKept last own other p said (record port { early_safe = true }) emitted (taken ++ (Safe q ∷ []))
  takes_early_safe q allowed first next = record {
    emits = kept.emits;
    emitted_at = kept.emitted_at;
    takes = more_taken kept (Safe q) allowed;
    taken_at = more_at kept (Safe q) allowed ∙ same_at _ _ _ _ _ _ (rw next (omega arith)) (rw first refl) refl;
    acknowledges = kept.acknowledges ∙ sym (payloads-append taken (Safe q ∷ []) ∙ append-nil _);
    acks_are = acks-append taken (Safe q ∷ []) ∙ append-nil _ ∙ kept.acks_are;
    waiting = kept.waiting;
    quiet = kept.quiet;
    before_last = kept.before_last;
    within = kept.within;
    nested = λ e. first;
    present = kept.present ∙ slot_kept p taken (Safe q) refl;
    early = kept.early ∙ slot_kept (suc p) taken (Safe q) refl;
  }

  pub takes_close : Allows {M = M} other last (taken_to p port) Close →
      PortKept last own other p said (record port { closed = true }) emitted (taken ++ (Close ∷ []))
  takes_close allowed = record {
    emits = kept.emits;
    emitted_at = kept.emitted_at;
    takes = more_taken kept Close allowed;
    taken_at = more_at kept Close allowed;
    acknowledges = kept.acknowledges ∙ sym (payloads-append taken (Close ∷ []) ∙ append-nil _);
    acks_are = acks-append taken (Close ∷ []) ∙ append-nil _ ∙ kept.acks_are;
    waiting = kept.waiting;
    quiet = kept.quiet;
    before_last = kept.before_last;
    within = kept.within;
    nested = kept.nested;
    present = kept.present ∙ slot_kept p taken Close refl;
    early = kept.early ∙ slot_kept (suc p) taken Close refl;
  }

  -- Ack p is taken, where the port waits
  pub takes_ack : Allows {M = M} other last (taken_to p port) (Ack p) → port.waits ≡ true → said ≡ false
      → PortKept last own other p said (record port { waits = false }) emitted (taken ++ (Ack p ∷ []))
  takes_ack allowed waited not_said = record {
    emits = kept.emits;
    emitted_at = kept.emitted_at;
    takes = more_taken kept (Ack p) allowed;
    taken_at = more_at kept (Ack p) allowed;
    acknowledges = kept.acknowledges ∙ sym (payloads-append taken (Ack p ∷ []) ∙ append-nil _);
    acks_are = acks-append taken (Ack p ∷ []) ∙ ap (λ l. l ++ (p ∷ [])) (kept.acks_are ∙ rw waited (append-nil _)) ∙
        ap (λ l. sent_pulses own p ++ l) (one p (own p) (kept.waiting waited));
    waiting = λ e. cc;
    quiet = λ e. refl;
    before_last = kept.before_last;
    within = kept.within;
    nested = kept.nested;
    present = kept.present ∙ slot_kept p taken (Ack p) refl;
    early = kept.early ∙ slot_kept (suc p) taken (Ack p) refl;
  }
    where
      one : (q : ℕ) (o : Option M) → is_some o ≡ true → q ∷ [] ≡ sent_pulse q o
      one q None e = cc
      one q (Some x) e = refl
