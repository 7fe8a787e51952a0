-- A port keeps its link as its node starts, says safe, and enters its next pulse.
use Rattle.std.proofs.Common.{◌≡◌, ℕ, suc, ◌+◌, ◌<◌, Bool, true, false, List, [], ◌∷◌, ◌++◌, Option, None, refl, sym, ap, ◌∙◌, append-nil, arith, ne_eqb}
use Rattle.std.specs.Prelude.{is_some, if◌then◌else◌}
use Rattle.std.proofs.lemmas.Bool.{and_parts}
use Rattle.wires.specs.declared.wire.Wire.{Wire}
use Rattle.wires.specs.declared.wire.Wire.TheVariants.{Safe}
use Rattle.wires.specs.Wires.{acks_of}
use Rattle.wires.specs.Streams.{sent_pulses}
use Rattle.alpha_core.specs.View.{Port, bit, new_port}
use Rattle.alpha_core.specs.Alpha.{advances, entry, enters}
use Rattle.wires.proofs.Wires.{acks-append}
use Rattle.alpha_laws.proofs.Cursor.{moves-append, follows-more}
use Rattle.alpha_laws.proofs.Kept.{same_at, entered_at}
use Rattle.alpha_laws.proofs.Slots.{bit_le, unpaid}
use Rattle.alpha_laws.proofs.Entry.{none_waits, entry_goes, entry_at, entry_acks}
use Rattle.alpha_laws.specs.Position.{start_at, move, moves}
use Rattle.alpha_laws.specs.Kept.{PortKept}

module _ {M : Type 0} {last : ℕ} {own other : ℕ → Option M} {p : ℕ} {said : Bool} {port : Port M} {emitted taken : List (Wire M)}
    (kept : PortKept last own other p said port emitted taken) where
  -- Safe p is emitted on the port
  pub says : p < last → said ≡ false → port.waits ≡ false → PortKept last own other p true port (emitted ++ (Safe p ∷ [])) taken
  says below not_said no_wait = record {
    emits = follows-more own last start_at emitted (Safe p ∷ []) kept.emits (rw kept.emitted_at (
      rw not_said (
        ne_eqb p last (λ e. omega arith),
        omega arith,
        refl,
        below,
      ),
      tt,
    ));
    emitted_at = moves-append start_at emitted (Safe p ∷ []) ∙ ap (λ c. move {M = M} c (Safe p)) kept.emitted_at ∙
        same_at _ _ _ _ _ _ (rw not_said (omega arith)) refl refl;
    takes = kept.takes;
    taken_at = kept.taken_at;
    acknowledges = acks-append emitted (Safe p ∷ []) ∙ append-nil _ ∙ kept.acknowledges;
    acks_are = kept.acks_are;
    waiting = kept.waiting;
    quiet = λ e. no_wait;
    before_last = λ e. below;
    within = kept.within;
    nested = kept.nested;
    present = kept.present;
    early = kept.early;
  }

  -- the next pulse, but for its safe
  pub pulses_on : own last ≡ None → said ≡ true → port.safe ≡ true
      → PortKept last own other (suc p) false (enters last (suc p) (own (suc p)) (advances port)) (emitted ++ entry last (suc p) (own (suc p))) taken
  pulses_on silent was_said first =
      let below : p < last = kept.before_last was_said in
      let at : moves start_at emitted ≡ entered_at (suc p) = kept.emitted_at ∙
      rw was_said (same_at _ _ _ _ _ _ (omega arith) refl (ne_eqb p last (λ e. omega arith))) in
      let new = own (suc p) in
      let no_wait = kept.quiet was_said in
      record {
        emits = follows-more own last start_at emitted _ kept.emits (rw at (entry_goes own last (suc p) below silent));
        emitted_at = moves-append start_at emitted (entry last (suc p) new) ∙ ap (λ c. moves c (entry last (suc p) new)) at ∙
            entry_at own last (suc p) below silent;
        takes = kept.takes;
        taken_at = kept.taken_at ∙ same_at _ _ _ _ _ _ (rw first (omega arith)) (rw first refl) refl;
        acknowledges = acks-append emitted (entry last (suc p) new) ∙ ap (λ l. acks_of emitted ++ l) (entry_acks own last (suc p) below silent) ∙
            append-nil _ ∙ kept.acknowledges;
        acks_are = kept.acks_are ∙ rw no_wait refl ∙ sym (append-nil _) ∙
            ap (λ l. sent_pulses own (suc p) ++ l) (sym (none_waits last (suc p) new (λ e. ap own e ∙ silent)));
        waiting = λ e. (and_parts _ _ e).1;
        quiet = λ e. cc;
        before_last = λ e. cc;
        within = below;
        nested = λ e. cc;
        present = kept.early;
        early = sym (unpaid kept (suc (suc p)) (rw first (omega (arith, bit_le port.early_safe))) (rw first (two port.early_safe port.early)));
      }
    where
      two : (b : Bool) (o : Option M) → p + 1 + bit b ≡ suc (suc p) → (if b then false else is_some o) ≡ false
      two true o e = refl
      two false o e = absurd (omega arith)

pub starts : {M : Type 0} (last : ℕ) (own other : ℕ → Option M) → own last ≡ None
    → PortKept last own other 0 false (enters last 0 (own 0) new_port) (entry last 0 (own 0)) []
starts last own other silent = record {
  emits = entry_goes own last 0 (omega arith) silent;
  emitted_at = entry_at own last 0 (omega arith) silent;
  takes = tt;
  taken_at = refl;
  acknowledges = entry_acks own last 0 (omega arith) silent;
  acks_are = sym (none_waits last 0 (own 0) (λ e. ap own e ∙ silent));
  waiting = λ e. (and_parts _ _ e).1;
  quiet = λ e. cc;
  before_last = λ e. cc;
  within = omega arith;
  nested = λ e. cc;
  present = refl;
  early = refl;
}
