-- What a node keeps of its ports, their out-lists and that none waits once it has said safe: as it says safe, as it enters a pulse, and as
-- one port is changed.
use Rattle.std.proofs.Common.{◌≡◌, ℕ, suc, zero, ◌<◌, ◌≤◌, Bool, true, false, Option, List, [], ◌∷◌, map, length, get_or, set}
use Rattle.std.proofs.Common.{refl, sym, ap, ◌∙◌, arith, subst, replicate}
use Rattle.std.specs.Prelude.{nat_lt, not, ◌&&◌, if◌then◌else◌}
use Rattle.std.proofs.lemmas.Bool.{and_from, and_parts}
use Rattle.std.proofs.lemmas.List.{length-set}
use Rattle.wires.specs.declared.wire.Wire.{Wire}
use Rattle.wires.specs.declared.wire.Wire.TheVariants.{Safe}
use Rattle.alpha_core.specs.Followed.{unsaid, AreFollowed, AllFollowed, AreSettled, IsAlphaNode}
use Rattle.alpha_core.specs.Rows.{AtPulse}
use Rattle.alpha_core.specs.View.{Port, View, new_port, none_waits}
use Rattle.alpha_core.specs.Alpha.{emit, advances, enter_all, entering}
use Rattle.alpha_core.proofs.Followed.{followed-at, followed-entering, followed-safe, followed-set}

module _ {M : Type 0} where
  -- which ports wait
  waits-set : (ports : List (Port M)) (i : ℕ) (p d : Port M) → (not (get_or ports i d).waits ≡ true → not p.waits ≡ true) → none_waits ports ≡ true
      → none_waits (set ports i p) ≡ true
  waits-set [] i p d step none = none
  waits-set (q ∷ ports) zero p d step none = let both = and_parts _ _ none in and_from _ _ (step both.0) both.1
  waits-set (q ∷ ports) (suc i) p d step none = let both = and_parts _ _ none in and_from _ _ both.0 (waits-set ports i p d step both.1)

  waits-emitted : (w : Wire M) (ports : List (Port M)) → none_waits (map (λ port. emit w port) ports) ≡ none_waits ports
  waits-emitted w [] = refl
  waits-emitted w (p ∷ ports) = ap (λ b. not p.waits && b) (waits-emitted w ports)

  pub waits-advanced : (ports : List (Port M)) → none_waits (map (λ port. advances port) ports) ≡ none_waits ports
  waits-advanced [] = refl
  waits-advanced (p ∷ ports) = ap (λ b. not p.waits && b) (waits-advanced ports)

  pub settled-safe : (said : Bool) (q : ℕ) (ports new : List (Port M)) → new ≡ map (λ port. emit (Safe q) port) ports → none_waits ports ≡ true
      → AreSettled said ports → AreSettled true new
  settled-safe said q ports new is none before = record {
    followed = subst (λ l. AllFollowed 0 l) (sym is) (followed-safe said q ports before.followed);
    waits = λ e. ap (λ l. none_waits l) is ∙ waits-emitted (Safe q) ports ∙ none;
  }

  waits-if : (b : Bool) (q : ℕ) (ports : List (Port M)) → (b ≡ true → none_waits ports ≡ true) →
      let view : View M =
      if b then record { pulse = q; said = true; ports = map (λ port. emit (Safe q) port) ports } else record { pulse = q; said = false; ports = ports } in
      view.said ≡ true → none_waits view.ports ≡ true
  waits-if true q ports none e = waits-emitted (Safe q) ports ∙ none refl
  waits-if false q ports none e = absurd cc

  settled-entering : (last q : ℕ) (sent : List (Option M)) (ports : List (Port M)) → AllFollowed 0 ports →
      AreSettled (entering last q sent ports).said (entering last q sent ports).ports
  settled-entering last q sent ports f = record {
    followed = followed-entering last q sent ports f;
    waits = waits-if (nat_lt q last && none_waits (enter_all last q sent ports)) q (enter_all last q sent ports) (λ e. (and_parts _ _ e).1);
  }

  pub settled-entered : (last q : ℕ) (sent : List (Option M)) (ports : List (Port M)) (said : Bool) (new : List (Port M)) →
      said ≡ (entering last q sent ports).said → new ≡ (entering last q sent ports).ports → AllFollowed 0 ports → AreSettled said new
  settled-entered last q sent ports said new is-said is-new f =
      subst (λ b. AreSettled b new) (sym is-said)
      (subst (λ l. AreSettled (entering last q sent ports).said l) (sym is-new) (settled-entering last q sent ports f))

  -- with two counts of the ports, and the bound of their pulse
  pub kept-set : (count size last : ℕ) (said : Bool) (v : AtPulse (Port M)) (i : ℕ) (p : Port M) (new : AtPulse (Port M))
      → new ≡ record v { ports = set v.ports i p } → i < length v.ports
      → (AreFollowed (unsaid said) (get_or v.ports i new_port).out → AreFollowed (unsaid said) p.out)
      → (not (get_or v.ports i new_port).waits ≡ true → not p.waits ≡ true)
      → IsAlphaNode count size v.pulse last said v.ports → IsAlphaNode count size new.pulse last said new.ports
  kept-set count size last said v i p new is below step quiet kept =
      let ports = ap (λ (w : AtPulse (Port M)). w.ports) is in
      let same : length new.ports ≡ length v.ports = ap length ports ∙ length-set v.ports i p in
      let more = unsaid said in record {
        program_ports = kept.program_ports ∙ sym same;
        outbox_ports = kept.outbox_ports ∙ sym same;
        low = omega (arith, kept.low, ap (λ (w : AtPulse (Port M)). w.pulse) is);
        settled = record {
          followed = subst (λ l. AllFollowed more l) (sym ports)
              (followed-set more v.ports i p (step (followed-at more v.ports i new_port below kept.settled.followed)) kept.settled.followed);
          waits = λ e. ap (λ l. none_waits l) ports ∙ waits-set v.ports i p new_port quiet (kept.settled.waits e);
        };
      }

pub new-waits : (M : Type 0) (n : ℕ) → none_waits {M = M} (replicate n new_port) ≡ true
new-waits M zero = refl
new-waits M (suc n) = new-waits M n
