-- What a payload that is due finds at its port, and the reaction to a wire that isn't refused.
use Rattle.std.proofs.Common.{◌≡◌, ℕ, suc, ◌+◌, ◌<◌, ◌≤◌, Bool, true, false, ◌&&◌, Option, Some, None, refl, sym, ap, ◌∙◌, arith, eq-eqb, ne_eqb, ⊎_elim}
use Rattle.std.specs.Prelude.{is_some, nat_eq, nat_lt, if◌then◌else◌, Ok}
use Rattle.std.proofs.lemmas.Bool.{cases_eq, and_parts, or_parts, eqb-true, leb-true, ltb-true, not-true}
use Rattle.wires.specs.declared.wire.Wire.{Wire}
use Rattle.wires.specs.declared.wire.Wire.TheVariants.{Payload, Safe}
use Rattle.alpha_core.specs.View.{Alpha, Port, View, set_port, safes_at, safes_here, is_paid, port_at}
use Rattle.alpha_core.specs.Table.{horizon, refusal_of, is_due}
use Rattle.alpha_core.specs.Rows.{AtPulse, with_port}
use Rattle.alpha_core.specs.Alpha.{reaction, reacts, unless_refused}
use Rattle.alpha_core.specs.When.{payload_taken, safes_before, when_of}
use Rattle.alpha_core.specs.declared.when.When.TheVariants.{Now, Next}

-- the reaction to a wire that isn't refused, and that is this one
pub reaction-is : {M : Type 0} (last : ℕ) (view : View M) (i : ℕ) (w v : Wire M)
    → refusal_of last view.pulse view.said (port_at view i) w ≡ None → w ≡ v → reaction last view i w ≡ Ok (reacts last view i v)
reaction-is last view i w v none is = ap (λ o. unless_refused o (reacts last view i w)) none ∙ ap (λ x. Ok (reacts last view i x)) is

-- one port of a node is changed
pub port-changed : {S M : Type 0} (last : ℕ) (said : Bool) (state : S) (v new : AtPulse (Port M)) (i : ℕ) (p q : Port M)
    → new ≡ with_port v i p → p ≡ q → ◌≡◌ {A = Alpha S M}
    record { last = last; node = record { state = state; view = record { pulse = new.pulse; said = said; ports = new.ports } } }
    record { last = last; node = record { state = state; view = set_port record { pulse = v.pulse; said = said; ports = v.ports } i q } }
port-changed last said state v new i p q is same =
    let node : View _ → Alpha _ _ = λ view. record { last = last; node = record { state = state; view = view } } in
    ap (λ (w : AtPulse (Port _)). node record { pulse = w.pulse; said = said; ports = w.ports }) is
    ∙ ap (λ x. node (set_port record { pulse = v.pulse; said = said; ports = v.ports } i x)) same

none-at : {M : Type 0} (o : Option M) (b : Bool) → (is_some o && b) ≡ false → b ≡ true → o ≡ None
none-at None b e h = refl
none-at (Some x) b e h = let wrong : false ≡ true = sym e ∙ h in absurd cc

horizon-below : (last p : ℕ) (said : Bool) → horizon last p said ≤ p + 1
horizon-below last p said = either (said && nat_lt p last)
  where
    either : (b : Bool) → (if b then suc p else p) ≤ p + 1
    either true = omega arith
    either false = omega arith

module _ {M : Type 0} (last p : ℕ) (said : Bool) (port : Port M) (q : ℕ) (x : M) (due : is_due last p said port (Payload q x) ≡ true) where
  unpaid : is_paid port ≡ false
  unpaid = not-true (is_paid port) (and_parts _ _ due).1

  next : q ≡ safes_at p port
  next = eqb-true q (safes_at p port) (and_parts _ _ (and_parts _ _ (and_parts _ _ (and_parts _ _ due).0).0).0).1

  within : q ≤ horizon last p said
  within = leb-true q (horizon last p said) (and_parts _ _ (and_parts _ _ (and_parts _ _ due).0).0).1

  -- no payload of its pulse was taken
  pub due-none : payload_taken (when_of p q) port ≡ None
  due-none = ⊎_elim
      (λ e. ap (λ b. payload_taken (if b then Now else Next) port) (eq-eqb q p e)
      ∙ none-at port.present (nat_eq (safes_here port) 0) (or_parts _ _ unpaid).0 (eq-eqb (safes_here port) 0 (omega (arith, next, e))))
      (λ ne. ap (λ b. payload_taken (if b then Now else Next) port) (ne_eqb q p ne)
      ∙ none-at port.early (nat_eq (safes_here port) 1) (or_parts _ _ unpaid).1
      (eq-eqb (safes_here port) 1 (omega (arith, next, ne, within, horizon-below last p said))))
      (cases_eq q p)

-- a safe that is due is the next
module _ {M : Type 0} (last p : ℕ) (said : Bool) (port : Port M) (q : ℕ) (due : is_due {M = M} last p said port (Safe q) ≡ true) where
  pub safe-below : q < last
  safe-below = ltb-true q last (and_parts _ _ due).1

  safe-next : q ≡ safes_at p port
  safe-next = eqb-true q (safes_at p port) (and_parts _ _ (and_parts _ _ (and_parts _ _ due).0).0).1

  safe-within : q ≤ horizon last p said
  safe-within = leb-true q (horizon last p said) (and_parts _ _ (and_parts _ _ due).0).1

  pub safe-at : q ≡ p + safes_before (when_of p q)
  safe-at = ⊎_elim
      (λ e. omega (arith, e, ap (λ b. safes_before (if b then Now else Next)) (eq-eqb q p e)))
      (λ ne. omega (arith, safe-next, ne, safe-within, horizon-below last p said, ap (λ b. safes_before (if b then Now else Next)) (ne_eqb q p ne)))
      (cases_eq q p)

  pub safe-follows : safes_here port ≡ safes_before (when_of p q)
  safe-follows = omega (arith, safe-next, safe-at)
