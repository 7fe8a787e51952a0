-- A port keeps its link as its node takes a wire that is due.
use Rattle.std.proofs.Common.{◌≡◌, ℕ, suc, ◌+◌, ◌≤◌, Bool, true, false, not, ◌&&◌, List, [], ◌∷◌, ◌++◌, Option, Some, refl, sym, ap, ◌∙◌, append_assoc, arith}
use Rattle.std.proofs.Common.{subst, ⊎_elim, eq-eqb, ne_eqb}
use Rattle.std.specs.Prelude.{if◌then◌else◌, nat_eq, nat_lt}
use Rattle.std.proofs.lemmas.Bool.{cases_Bool, and_parts, leb-true, eqb-true, false_from_ne_true}
use Rattle.wires.specs.declared.wire.Wire.{Wire}
use Rattle.wires.specs.declared.wire.Wire.TheVariants.{Payload, Ack, Safe, Close}
use Rattle.alpha_core.specs.View.{Port, bit}
use Rattle.alpha_core.specs.Table.{is_due, horizon}
use Rattle.alpha_core.specs.Alpha.{takes, emit}
use Rattle.alpha_laws.proofs.NodeKept.{kept_out}
use Rattle.alpha_laws.proofs.Takes.{takes_safe, takes_early_safe, takes_close, takes_ack}
use Rattle.alpha_laws.proofs.TakesPayload.{takes_payload, takes_early_payload}
use Rattle.alpha_laws.proofs.Slots.{no_early_safe}
use Rattle.alpha_laws.specs.Position.{Allows}
use Rattle.alpha_laws.specs.Kept.{taken_to, PortKept}

horizon_le : (last p : ℕ) (said : Bool) → horizon last p said ≤ suc p
horizon_le last p said = elim (said && nat_lt p last) as (λ b. (if b then suc p else p) ≤ suc p) [ true ↦ omega arith | false ↦ omega arith ]

payload_way : {M : Type 0} (p : ℕ) (port : Port M) (q : ℕ) (x : M) (b : Bool) → b ≡ nat_eq q p →
    emit (Ack q) (if b then record port { present = Some x } else record port { early = Some x }) ≡ takes p port (Payload q x)
payload_way p port q x b e = ap (λ c. emit (Ack q) (if c then record port { present = Some x } else record port { early = Some x })) e

safe_way : {M : Type 0} (p : ℕ) (port : Port M) (q : ℕ) (b : Bool) → b ≡ nat_eq q p →
    (if b then record port { safe = true } else record port { early_safe = true }) ≡ takes p port (Safe q)
safe_way p port q b e = ap (λ c. if c then record port { safe = true } else record port { early_safe = true }) e

module _ {M : Type 0} {last : ℕ} {own other : ℕ → Option M} {p : ℕ} {said : Bool} {port : Port M} {taken : List (Wire M)} (sent : List (Wire M))
    (kept : PortKept last own other p said port (sent ++ port.out) taken) where
  early_free : (q : ℕ) (b : Bool) → q ≡ p + 1 + bit b → q ≤ suc p → b ≡ false
  early_free q true e le = absurd (omega arith)
  early_free q false e le = refl

  -- the port after a wire that is due
  pub takes_kept : (w : Wire M) → is_due last p said port w ≡ true → Allows other last (taken_to p port) w →
      PortKept last own other p said (takes p port w) (sent ++ (takes p port w).out) (taken ++ (w ∷ []))
  takes_kept (Payload q x) due allowed =
      let le : q ≤ horizon last p said = leb-true q (horizon last p said) (and_parts _ _ (and_parts _ _ (and_parts _ _ due).0).0).1 in
      ⊎_elim
      (λ first.
      let is : q ≡ suc p = early_pulse q port.early_safe (allowed.1 ∙ rw first refl) (omega (arith, le, horizon_le last p said)) in
      let next : port.early_safe ≡ false = early_free q port.early_safe (allowed.1 ∙ rw first refl) (omega (arith, le, horizon_le last p said)) in
      let allowed' = subst (λ r. Allows other last (taken_to p port) (Payload r x)) is allowed in
      subst (λ r. PortKept last own other p said (takes p port (Payload r x)) (sent ++ (takes p port (Payload r x)).out) (taken ++ (Payload r x ∷ []))) (sym is)
      (subst (λ x'. PortKept last own other p said x' (sent ++ x'.out) (taken ++ (Payload (suc p) x ∷ [])))
      (payload_way p port (suc p) x false (sym (ne_eqb (suc p) p (λ e. omega arith))))
      (kept_out (port.out ++ (Ack (suc p) ∷ [])) _ (append_assoc sent port.out (Ack (suc p) ∷ [])) (takes_early_payload kept x allowed' first next))))
      (λ fresh.
      let none : port.early_safe ≡ false = no_early_safe kept fresh in
      let is : q ≡ p = allowed.1 ∙ rw none (rw fresh (omega arith)) in
      let allowed' = subst (λ r. Allows other last (taken_to p port) (Payload r x)) is allowed in
      subst (λ r. PortKept last own other p said (takes p port (Payload r x)) (sent ++ (takes p port (Payload r x)).out) (taken ++ (Payload r x ∷ []))) (sym is)
      (subst (λ x'. PortKept last own other p said x' (sent ++ x'.out) (taken ++ (Payload p x ∷ []))) (payload_way p port p x true (sym (eq-eqb p p refl)))
      (kept_out (port.out ++ (Ack p ∷ [])) _ (append_assoc sent port.out (Ack p ∷ [])) (takes_payload kept x allowed' fresh))))
      (cases_Bool port.safe)
    where
      early_pulse : (q : ℕ) (b : Bool) → q ≡ p + 1 + bit b → q ≤ suc p → q ≡ suc p
      early_pulse q b e le = omega arith
  takes_kept (Ack q) due allowed =
      let three = and_parts (not port.closed && nat_eq q p) port.waits due in
      let is : q ≡ p = eqb-true q p (and_parts (not port.closed) (nat_eq q p) three.0).1 in
      let unsaid : said ≡ false =
      false_from_ne_true said (λ e. let quiet : port.waits ≡ false = kept.quiet e in let waits : port.waits ≡ true = three.1 in cc) in
      subst (λ r. PortKept last own other p said (record port { waits = false }) (sent ++ port.out) (taken ++ (Ack r ∷ []))) (sym is)
      (takes_ack kept allowed three.1 unsaid)
  takes_kept (Safe q) due allowed =
      let le : q ≤ horizon last p said = leb-true q (horizon last p said) (and_parts _ _ (and_parts _ _ due).0).1 in
      ⊎_elim
      (λ first.
      let next : port.early_safe ≡ false = early_free q port.early_safe (allowed.1 ∙ rw first refl) (omega (arith, le, horizon_le last p said)) in
      subst (λ x'. PortKept last own other p said x' (sent ++ x'.out) (taken ++ (Safe q ∷ [])))
      (safe_way p port q false (sym (ne_eqb q p (λ e. let is : q ≡ p + 1 + bit port.early_safe = allowed.1 ∙ rw first refl in omega arith))))
      (takes_early_safe kept q allowed first next))
      (λ fresh. subst (λ x'. PortKept last own other p said x' (sent ++ x'.out) (taken ++ (Safe q ∷ [])))
      (safe_way p port q true (sym (eq-eqb q p (let none : port.early_safe ≡ false = no_early_safe kept fresh in allowed.1 ∙
      rw none (rw fresh (omega arith)))))) (takes_safe kept q allowed fresh))
      (cases_Bool port.safe)
  takes_kept Close due allowed = takes_close kept allowed
