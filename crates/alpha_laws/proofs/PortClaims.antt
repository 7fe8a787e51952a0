-- What is kept of a port says that the port fits.
use Rattle.std.proofs.Common.{◌≡◌, ℕ, ◌+◌, ◌<◌, ◌≤◌, Bool, true, false, List, [], ◌∷◌, ◌++◌, Option, Some, None, refl, sym, ap, ◌∙◌, add-one, add-zero}
use Rattle.std.proofs.Common.{append_assoc, append-nil, arith, subst, ⊎_elim}
use Rattle.std.specs.Prelude.{is_some, if◌then◌else◌, nat_eq, Contains}
use Rattle.std.proofs.lemmas.Bool.{cases_lt, cases_Bool}
use Rattle.std.proofs.lemmas.List.Elements.{Contains-append_left, Contains-append_right}
use Rattle.wires.specs.declared.wire.Wire.{Wire}
use Rattle.wires.specs.declared.wire.Wire.TheVariants.{Safe, Close}
use Rattle.wires.specs.Wires.{data_of, acks_of}
use Rattle.wires.specs.Streams.{sent_pulse, sent_pulses, payload_wire, rounds, Legal}
use Rattle.alpha_core.specs.View.{Port, bit}
use Rattle.alpha_laws.specs.Fits.{PortFits}
use Rattle.alpha_laws.proofs.Shown.{data_to}
use Rattle.alpha_laws.proofs.Lawful.{data_emitted, legal_emitted}
use Rattle.alpha_laws.proofs.Listed.{one_contains, pulses_has, pulses_below, safes_moved, close_in, in_close}
use Rattle.alpha_laws.specs.Position.{start_at}
use Rattle.alpha_laws.specs.Kept.{emitted_to, PortKept}

module _ {M : Type 0} {last : ℕ} {own other : ℕ → Option M} {p : ℕ} {said : Bool} {port : Port M} {emitted taken : List (Wire M)}
    (kept : PortKept last own other p said port emitted taken) where
  pub acked : (q : ℕ) → q < p + bit said → is_some (own q) ≡ true → Contains (acks_of taken) q
  acked q lt e = subst (λ l. Contains l q) (sym kept.acks_are) (⊎_elim
      (λ before. Contains-append_left (sent_pulses own p) _ q (pulses_has own p q before e))
      (λ late. Contains-append_right (sent_pulses own p) _ q (present said refl late))
      (cases_lt q p))
    where
      present : (s : Bool) → said ≡ s → p ≤ q → Contains (if port.waits then [] else sent_pulse p (own p)) q
      present true is le =
          let quiet : port.waits ≡ false = kept.quiet is in
          let same : q ≡ p = let s = ap bit is in omega arith in
          rw quiet (subst (λ r. Contains (sent_pulse p (own p)) r) (sym same) (one_contains p (own p) (ap (λ r. is_some (own r)) (sym same) ∙ e)))
      present false is le = absurd (let s = ap bit is in omega arith)

  data_is : data_of emitted ≡ rounds own p ++ (payload_wire p (own p) ++ ((if said then Safe p ∷ [] else []) ++ (if nat_eq p last then Close ∷ [] else [])))
  data_is = data_emitted kept ∙ both said (own p) refl
    where
      both : (s : Bool) (o : Option M) → own p ≡ o → data_to own (emitted_to last p s o) ≡ rounds own p
          ++ (payload_wire p (own p) ++ ((if s then Safe p ∷ [] else []) ++ (if nat_eq p last then Close ∷ [] else [])))
      both true o e = rw add-one (append_assoc (rounds own p) (payload_wire p (own p) ++ (Safe p ∷ [])) _ ∙
          ap (λ l. rounds own p ++ l) (append_assoc (payload_wire p (own p)) (Safe p ∷ []) _))
      both false None e = rw (add-zero, e) refl
      both false (Some x) e = rw (add-zero, e) refl

  pub port_fits : Legal last other own taken → PortFits last own other p said port emitted taken
  port_fits legal = record {
    emitted_legal = legal_emitted kept;
    emitted_stream = data_is;
    acknowledges = kept.acknowledges;
    taken_legal = legal;
    taken_safes = sym (add-zero _) ∙ safes_moved start_at taken ∙ ap (λ c. c.safes) kept.taken_at;
    early_after_safe = kept.nested;
    taken_present = sym kept.present;
    taken_early = sym kept.early;
    taken_close = (
      λ has. sym (ap (λ c. c.closed) kept.taken_at) ∙ in_close start_at taken has,
      λ shut. close_in start_at taken refl (ap (λ c. c.closed) kept.taken_at ∙ shut),
    );
    waits = (
      λ waiting. (
        kept.waiting waiting,
        λ has.
            let before : Contains (sent_pulses own p) p = subst (λ l. Contains l p) (kept.acks_are ∙ rw waiting (append-nil _)) has in
            let lt = pulses_below own p p before in omega arith,
      ),
      λ open'. ⊎_elim (λ e. e) (λ idle. absurd (open'.1 (subst (λ l. Contains l p) (sym kept.acks_are)
          (rw idle (Contains-append_right (sent_pulses own p) _ p (one_contains p (own p) open'.0)))))) (cases_Bool port.waits),
    );
    acknowledged = λ q lt e. acked q (omega arith) e;
  }
