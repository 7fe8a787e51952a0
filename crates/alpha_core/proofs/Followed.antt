-- What a node emits keeps a safe behind each payload, so that an out-list with room has at most one payload.
use Rattle.std.proofs.Common.{◌≡◌, ℕ, suc, zero, ◌<◌, ◌≤◌, ◌+◌, Bool, true, false, Option, Some, None, List, [], ◌∷◌, ◌++◌, map, length, get_or, set, refl, sym}
use Rattle.std.proofs.Common.{ap, arith, drop, subst, replicate}
use Rattle.std.specs.Prelude.{nat_eq, nat_lt, ◌&&◌, if◌then◌else◌}
use Rattle.std.proofs.lemmas.Bool.{and_parts, leb-true}
use Rattle.wires.specs.declared.wire.Wire.{Wire}
use Rattle.wires.specs.declared.wire.Wire.TheVariants.{Payload, Ack, Safe, Close}
use Rattle.alpha_core.specs.OutLists.{PayloadFits, payload_of, payloads_out, safes_out}
use Rattle.alpha_core.specs.Followed.{unsaid, AreFollowed, AllFollowed, AllFew}
use Rattle.wires.specs.Streams.{payload_wire}
use Rattle.alpha_core.specs.View.{Port, View, new_port, all_out_within, none_waits}
use Rattle.alpha_core.specs.Alpha.{emit, advances, enter_all, entering}

module _ {M : Type 0} where
  pub no-payload-fits : (w : Wire M) (n : ℕ) → payload_of w ≡ [] → PayloadFits w n
  no-payload-fits (Payload p x) n none = absurd (omega (arith, ap length none))
  no-payload-fits (Ack p) n none = tt
  no-payload-fits (Safe p) n none = tt
  no-payload-fits Close n none = tt

  payloads-append : (out : List (Wire M)) (w : Wire M) → payloads_out (out ++ (w ∷ [])) ≡ payloads_out out + length (payload_of w)
  payloads-append [] w = omega arith
  payloads-append (v ∷ out) w = omega (arith, payloads-append out w)

  safes-cons : (v : Wire M) (out : List (Wire M)) → safes_out (v ∷ out) ≡ safes_out (v ∷ []) + safes_out out
  safes-cons (Payload p x) out = omega arith
  safes-cons (Ack p) out = omega arith
  safes-cons (Safe p) out = omega arith
  safes-cons Close out = omega arith

  safes-append : (out : List (Wire M)) (w : Wire M) → safes_out (out ++ (w ∷ [])) ≡ safes_out out + safes_out (w ∷ [])
  safes-append [] w = omega arith
  safes-append (v ∷ out) w = omega (arith, safes-append out w, safes-cons v (out ++ (w ∷ [])), safes-cons v out)

  both-fit : (out : List (Wire M)) → payloads_out out + safes_out out ≤ length out
  both-fit [] = omega arith
  both-fit (Payload p x ∷ out) = omega (arith, both-fit out)
  both-fit (Ack p ∷ out) = omega (arith, both-fit out)
  both-fit (Safe p ∷ out) = omega (arith, both-fit out)
  both-fit (Close ∷ out) = omega (arith, both-fit out)

  -- a wire comes behind: how far the measure moves
  moves : (more less : ℕ) (out : List (Wire M)) (w : Wire M) → length (payload_of w) + more ≤ safes_out (w ∷ []) + less →
      length (payload_of w) ≤ safes_out (w ∷ []) + less
      → AreFollowed more out → AreFollowed less (out ++ (w ∷ []))
  moves more less [] w step last f = (omega (arith, last), tt)
  moves more less (v ∷ out) w step last f =
      (omega (arith, f.0, step, payloads-append (v ∷ out) w, safes-append (v ∷ out) w), moves more less out w step last f.1)

  pub stays : (more : ℕ) (out : List (Wire M)) (w : Wire M) → payload_of w ≡ [] → AreFollowed more out → AreFollowed more (out ++ (w ∷ []))
  stays more out w none f = moves more more out w (omega (arith, ap length none)) (omega (arith, ap length none)) f

  pub loosens : (out : List (Wire M)) → AreFollowed 0 out → AreFollowed 1 out
  loosens [] f = tt
  loosens (v ∷ out) f = (omega (arith, f.0), loosens out f.1)

  pub drops : (more : ℕ) (out : List (Wire M)) → AreFollowed more out → AreFollowed more (drop 1 out)
  drops more [] f = tt
  drops more (v ∷ out) f = f.1

  few : (out : List (Wire M)) → length out ≤ 3 → AreFollowed 0 out → payloads_out out ≤ 1
  few [] le f = omega arith
  few (v ∷ out) le f = omega (arith, f.0, both-fit (v ∷ out), le)

  -- All ports.
  pub followed-at : (more : ℕ) (ports : List (Port M)) (i : ℕ) (d : Port M) → i < length ports → AllFollowed more ports →
      AreFollowed more (get_or ports i d).out
  followed-at more [] i d lt f = absurd (omega arith)
  followed-at more (p ∷ ports) zero d lt f = f.0
  followed-at more (p ∷ ports) (suc i) d lt f = followed-at more ports i d (omega arith) f.1

  pub followed-set : (more : ℕ) (ports : List (Port M)) (i : ℕ) (p : Port M) → AreFollowed more p.out → AllFollowed more ports →
      AllFollowed more (set ports i p)
  followed-set more [] i p g f = tt
  followed-set more (q ∷ ports) zero p g f = (g, f.1)
  followed-set more (q ∷ ports) (suc i) p g f = (f.0, followed-set more ports i p g f.1)

  pub few-at : (ports : List (Port M)) (i : ℕ) (d : Port M) → i < length ports → AllFew ports → payloads_out (get_or ports i d).out ≤ 1
  few-at [] i d lt f = absurd (omega arith)
  few-at (p ∷ ports) zero d lt f = f.0
  few-at (p ∷ ports) (suc i) d lt f = few-at ports i d (omega arith) f.1

  pub few-all : (ports : List (Port M)) → all_out_within 3 ports ≡ true → AllFollowed 0 ports → AllFew ports
  few-all [] room f = tt
  few-all (p ∷ ports) room f = (few p.out (leb-true (length p.out) 3 (and_parts _ _ room).0) f.0, few-all ports (and_parts _ _ room).1 f.1)

  pub followed-advances : (more : ℕ) (ports : List (Port M)) → AllFollowed more ports → AllFollowed more (map (λ port. advances port) ports)
  followed-advances more [] f = tt
  followed-advances more (p ∷ ports) f = (f.0, followed-advances more ports f.1)

  loose : (said : Bool) (ports : List (Port M)) → AllFollowed (unsaid said) ports → AllFollowed 1 ports
  loose false ports f = f
  loose true [] f = tt
  loose true (p ∷ ports) f = (loosens p.out f.0, loose true ports f.1)

  all-safe : (q : ℕ) (ports : List (Port M)) → AllFollowed 1 ports → AllFollowed 0 (map (λ port. emit (Safe q) port) ports)
  all-safe q [] f = tt
  all-safe q (p ∷ ports) f = (moves 1 0 p.out (Safe q) (omega arith) (omega arith) f.0, all-safe q ports f.1)

  pub followed-safe : (said : Bool) (q : ℕ) (ports : List (Port M)) → AllFollowed (unsaid said) ports → AllFollowed 0 (map (λ port. emit (Safe q) port) ports)
  followed-safe said q ports f = all-safe q ports (loose said ports f)

  enter-one : (b : Bool) (q : ℕ) (sent : Option M) (out : List (Wire M)) → AreFollowed 0 out →
      AreFollowed 1 (out ++ (if b then Close ∷ [] else payload_wire q sent))
  enter-one true q sent out f = stays 1 out Close refl (loosens out f)
  enter-one false q None out f = subst (λ l. AreFollowed 1 l) (sym (append-none out)) (loosens out f)
    where
      append-none : (l : List (Wire M)) → l ++ [] ≡ l
      append-none [] = refl
      append-none (v ∷ l) = ap (λ k. v ∷ k) (append-none l)
  enter-one false q (Some x) out f = moves 0 1 out (Payload q x) (omega arith) (omega arith) f

  enter-every : (last q : ℕ) (sent : List (Option M)) (ports : List (Port M)) → AllFollowed 0 ports → AllFollowed 1 (enter_all last q sent ports)
  enter-every last q sent [] f = tt
  enter-every last q sent (p ∷ ports) f = (enter-one (nat_eq q last) q (get_or sent 0 None) p.out f.0, enter-every last q (drop 1 sent) ports f.1)

  settle-if : (b : Bool) (q : ℕ) (ports : List (Port M)) → AllFollowed 1 ports →
      let view : View M =
      if b then record { pulse = q; said = true; ports = map (λ port. emit (Safe q) port) ports } else record { pulse = q; said = false; ports = ports } in
      AllFollowed (unsaid view.said) view.ports
  settle-if true q ports f = all-safe q ports f
  settle-if false q ports f = f

  pub followed-entering : (last q : ℕ) (sent : List (Option M)) (ports : List (Port M)) → AllFollowed 0 ports →
      AllFollowed (unsaid (entering last q sent ports).said) (entering last q sent ports).ports
  followed-entering last q sent ports f =
      settle-if (nat_lt q last && none_waits (enter_all last q sent ports)) q (enter_all last q sent ports) (enter-every last q sent ports f)

pub followed-new : (M : Type 0) (more n : ℕ) → AllFollowed {M = M} more (replicate n new_port)
followed-new M more zero = tt
followed-new M more (suc n) = (tt, followed-new M more n)

pub few-new : (M : Type 0) (n : ℕ) → AllFew {M = M} (replicate n new_port)
few-new M zero = tt
few-new M (suc n) = (omega arith, few-new M n)
