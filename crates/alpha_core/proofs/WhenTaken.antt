-- A port at which a payload or the safe of a pulse was taken.
use Rattle.std.proofs.Common.{◌≡◌, ℕ, ◌<◌, Bool, true, false, List, length, refl, ap, ◌∙◌}
use Rattle.std.specs.Prelude.{if◌then◌else◌, nat_eq, Some, not}
use Rattle.alpha_core.specs.declared.when.When.{When}
use Rattle.alpha_core.specs.declared.when.When.TheVariants.{Now, Next}
use Rattle.wires.specs.declared.wire.Wire.TheVariants.{Payload, Ack, Safe}
use Rattle.alpha_core.specs.View.{Port, port_in}
use Rattle.alpha_core.specs.Alpha.{emit, takes}
use Rattle.alpha_core.specs.Rows.{AtPulse, with_port}
use Rattle.alpha_core.specs.When.{when_of, with_payload, with_safe}
use Rattle.alpha_core.specs.Followed.{AreFollowed}
use Rattle.alpha_core.proofs.Followed.{stays}
use Rattle.alpha_core.proofs.PortLists.{set_twice}

module _ {M : Type 0} where
  -- these are the ports of the definition
  pub payload-takes : (p q : ℕ) (when : When) (x : M) (port : Port M) → when ≡ when_of p q
      → emit (Ack q) (with_payload when x port) ≡ takes p port (Payload q x)
  payload-takes p q when x port is = ap (λ w. emit (Ack q) (with_payload w x port)) is ∙ by (nat_eq q p)
    where
      by : (b : Bool) → emit (Ack q) (with_payload (if b then Now else Next) x port)
          ≡ emit (Ack q) (if b then record port { present = Some x } else record port { early = Some x })
      by true = refl
      by false = refl

  pub safe-takes : (p q : ℕ) (when : When) (port : Port M) → when ≡ when_of p q → with_safe when port ≡ takes p port (Safe q)
  safe-takes p q when port is = ap (λ w. with_safe w port) is ∙ by (nat_eq q p)
    where
      by : (b : Bool) → with_safe (if b then Now else Next) port ≡ (if b then record port { safe = true } else record port { early_safe = true })
      by true = refl
      by false = refl

  -- what they leave of the port
  pub payload-follows : (when : When) (x : M) (port : Port M) (n q : ℕ) → AreFollowed n port.out → AreFollowed n (emit (Ack q) (with_payload when x port)).out
  payload-follows Now x port n q f = stays n port.out (Ack q) refl f
  payload-follows Next x port n q f = stays n port.out (Ack q) refl f

  pub payload-quiet : (when : When) (x : M) (port : Port M) → not port.waits ≡ true → not (with_payload when x port).waits ≡ true
  payload-quiet Now x port h = h
  payload-quiet Next x port h = h

  pub payload-room : (when : When) (x : M) (port : Port M) → (with_payload when x port).out ≡ port.out
  payload-room Now x port = refl
  payload-room Next x port = refl

  pub safe-followed : (when : When) (port : Port M) (n : ℕ) → AreFollowed n port.out → AreFollowed n (with_safe when port).out
  safe-followed Now port n f = f
  safe-followed Next port n f = f

  pub safe-quiet : (when : When) (port : Port M) → not port.waits ≡ true → not (with_safe when port).waits ≡ true
  safe-quiet Now port h = h
  safe-quiet Next port h = h

  -- a port is changed, and then acknowledges
  pub acknowledged : (v mid new : AtPulse (Port M)) (i q : ℕ) (p : Port M) → i < length v.ports → mid ≡ with_port v i p
      → new ≡ with_port mid i (emit (Ack q) (port_in mid.ports i)) → new ≡ with_port v i (emit (Ack q) p)
  acknowledged v mid new i q p lt first second =
      second ∙ ap (λ (u : AtPulse (Port M)). with_port u i (emit (Ack q) (port_in u.ports i))) first
      ∙ ap (λ (l : List (Port M)). record v { ports = l }) (set_twice v.ports i p (λ p. emit (Ack q) p) lt)
