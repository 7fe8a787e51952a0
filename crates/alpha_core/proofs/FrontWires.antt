-- The oldest of a port's wires, from its wires and their payloads.
use Rattle.std.proofs.Common.{◌≡◌, ℕ, Option, Some, None, List, [], ◌∷◌, length, drop, refl, ap, arith}
use Rattle.std.specs.Prelude.{slice_get}
use Rattle.std.proofs.lemmas.Option.{same_Some}
use Rattle.wires.specs.declared.wire.Wire.TheVariants as wire
use Rattle.alpha_core.specs.declared.bare.BareWire.{BareWire}
use Rattle.alpha_core.specs.declared.bare.BareWire.TheVariants.{Payload}
use Rattle.alpha_core.specs.OutLists.{payload_count, payloads_in, wires_of}

abbrev held : {A : Type 0} → A → Option A → A
held d (Some x) = x
held d None = d

module _ {M : Type 0} where
  pub front-none : (bares : List BareWire) (payloads : List M) → None ≡ slice_get bares 0 → None ≡ slice_get (wires_of bares payloads) 0
  front-none [] payloads e = refl
  front-none (bare ∷ bares) payloads e = absurd cc

  -- the wires of which this one is the first
  pub front-is : (bares : List BareWire) (payloads : List M) (bare : BareWire) → Some bare ≡ slice_get bares 0 →
      wires_of (bare ∷ drop 1 bares) payloads ≡ wires_of bares payloads
  front-is [] payloads bare e = absurd cc
  front-is (b ∷ bares) payloads bare e = ap (λ x. wires_of (x ∷ bares) payloads) (same_Some bare b e)

  -- the first is a payload wire
  pub front-payload : (bares : List BareWire) (payloads : List M) (pulse : ℕ) (x : M) → Some x ≡ slice_get payloads 0 →
      Some (wire.Payload pulse x) ≡ slice_get (wires_of (Payload pulse ∷ bares) payloads) 0
  front-payload bares [] pulse x e = absurd cc
  front-payload bares (y ∷ payloads) pulse x e = ap (λ z. Some (wire.Payload pulse z)) (same_Some x y e)

  pub front-missing : (bares : List BareWire) (payloads : List M) (pulse : ℕ) → Some (Payload pulse) ≡ slice_get bares 0 →
      payloads_in bares ≡ length payloads → None ≡ slice_get payloads 0 → ⊥
  front-missing [] payloads pulse e whole none = absurd cc
  front-missing (b ∷ bares) [] pulse e whole none = omega (arith, whole, ap (λ x. payload_count x) (same_Some (Payload pulse) b e))
  front-missing (b ∷ bares) (y ∷ payloads) pulse e whole none = absurd cc
