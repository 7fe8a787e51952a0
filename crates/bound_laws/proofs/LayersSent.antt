-- A node of the layers sends at one pulse: that of its distance.
use Rattle.std.proofs.Common.{◌≡◌, ℕ, zero, suc, ◌+◌, ◌-◌, ◌≤◌, ◌&&◌, Bool, true, false, List, length, refl, ap, sym, ◌∙◌, arith, subst, replicate}
use Rattle.std.specs.Prelude.{if◌then◌else◌, nat_eq, nat_lt, Option, Some, None, Result, Ok, Err}
use Rattle.std.proofs.lemmas.Bool.Decides.{nat_tests}
use Rattle.interference.specs.Net.{IsNetwork, Net, degree_of, id_of, port_to}
use Rattle.node_api.specs.Boxes.{at_port, nothing}
use Rattle.node_api.specs.Program.{last_pulse_on, own_of}
use Rattle.node_api.specs.Run.{after, inbox_from, node_at, sent_at}
use Rattle.node_api.specs.declared.program.Refused.{Refused}
use Rattle.node_api.proofs.Runs.{node_at-more, node_at-none}
use Rattle.node_api.proofs.Slots.{at_port-nothing}
use Rattle.wires.specs.Streams.{sent_pulse}
use Rattle.layers.specs.declared.hops.Hops.{Hops}
use Rattle.layers.specs.declared.layer.Layer.{Layer}
use Rattle.layers.specs.declared.layer.Layer.TheVariants.{Away, Root, Unreached}
use Rattle.layers.specs.declared.layer.TheConstants.{ROOT_ID}
use Rattle.layers.specs.Layered.{Layered}
use Rattle.layers.specs.Layering.{heard, is_due, layer_after, layering, next_from, sends}
use Rattle.bound_laws.proofs.Sent.{next, no-less, over, sent_below}

-- what a node sends to another, by pulse
abbrev sent_by : Net → ℕ → ℕ → ℕ → Option Hops
sent_by net v w p = sent_at layering net p v w

-- after pulse p a node of this layer has sent so often: not before it is reached, and once at its distance
abbrev Few : Layer → ℕ → ℕ → Type 0
Few Unreached p n = n ≡ 0
Few Root p n = n ≤ 1
Few (Away hops port) p n = (n ≤ 1) × (hops ≤ p)

few-once : (layer : Layer) (p n : ℕ) → Few layer p n → n ≤ 1
few-once Unreached p n few = omega (arith, few)
few-once Root p n few = few
few-once (Away hops port) p n few = few.0

few-later : (layer : Layer) (p n : ℕ) → Few layer p n → Few layer (suc p) n
few-later Unreached p n few = few
few-later Root p n few = few
few-later (Away hops port) p n few = (few.0, omega (arith, few.1))

quiet : (p k : ℕ) (s : Layered) → is_due s.layer p ≡ false → at_port (sends p s) k ≡ None
quiet p k s none =
    ap (λ (b : Bool). at_port (if nat_lt p s.last && b then replicate s.degree (Some (record { 0 = p })) else nothing s.degree) k) none
    ∙ either (nat_lt p s.last)
  where
    either : (b : Bool) → at_port {M = Hops} (if b && false then replicate s.degree (Some (record { 0 = p })) else nothing s.degree) k ≡ None
    either true = at_port-nothing s.degree k
    either false = at_port-nothing s.degree k

-- how often a node has sent when it sends this too
abbrev with_slot : ℕ → ℕ → Option Hops → ℕ
with_slot n p slot = n + length (sent_pulse p slot)

nothing-more : (P : ℕ → Type 0) (n p : ℕ) (slot : Option Hops) → slot ≡ None → P n → P (with_slot n p slot)
nothing-more P n p slot none h = subst P (let e : n ≡ with_slot n p slot = omega (arith, ap (λ (x : Option Hops). length (sent_pulse p x)) none) in e) h

few-heard : (layer : Layer) (degree last p n k : ℕ) (first : Option ℕ) → Few layer p n →
    Few (layer_after layer (suc p) first) (suc p)
    (with_slot n (suc p) (at_port (sends (suc p) (record { layer = layer_after layer (suc p) first; degree = degree; last = last })) k))
few-heard Unreached degree last p n k None few =
    nothing-more (λ m. m ≡ 0) n (suc p) _ (quiet (suc p) k (record { layer = Unreached; degree = degree; last = last }) refl) few
few-heard Unreached degree last p n k (Some port) few =
    let slot : Option Hops = at_port (sends (suc p) (record { layer = Away (suc p) port; degree = degree; last = last })) k in
    (omega (arith, few, one (suc p) slot), omega arith)
  where
    one : (p : ℕ) (x : Option Hops) → length (sent_pulse p x) ≤ 1
    one p None = omega arith
    one p (Some x) = omega arith
few-heard Root degree last p n k first few =
    let late : nat_eq (suc p) 0 ≡ false = grind (arith, nat_tests) in
    nothing-more (λ m. m ≤ 1) n (suc p) _ (quiet (suc p) k (record { layer = Root; degree = degree; last = last }) late) few
few-heard (Away hops port) degree last p n k first few =
    let late : nat_eq (suc p) hops ≡ false = (let h : hops ≤ p = few.1 in grind (arith, nat_tests)) in (
      nothing-more (λ m. m ≤ 1) n (suc p) _ (quiet (suc p) k (record { layer = Away hops port; degree = degree; last = last }) late) few.0,
      omega (arith, few.1),
    )

few-after : (s : Layered) (degree p n k : ℕ) (r : Result (Option ℕ) Refused) → Few s.layer p n →
    Few (after s degree (next_from s (suc p) r)).0.layer (suc p) (with_slot n (suc p) (at_port (after s degree (next_from s (suc p) r)).1 k))
few-after s degree p n k (Ok first) few = few-heard s.layer s.degree s.last p n k first few
few-after s degree p n k (Err refused) few =
    nothing-more (Few s.layer (suc p)) n (suc p) _ (at_port-nothing degree k) (few-later s.layer p n few)

few-first : (id degree last k : ℕ) (b : Bool) → nat_eq id ROOT_ID ≡ b →
    Few (if b then Root else Unreached) 0
    (with_slot 0 0 (at_port (sends 0 (record { layer = if b then Root else Unreached; degree = degree; last = last })) k))
few-first id degree last k true e = one 0 (at_port (sends 0 (record { layer = Root; degree = degree; last = last })) k)
  where
    one : (p : ℕ) (x : Option Hops) → with_slot 0 p x ≤ 1
    one p None = omega arith
    one p (Some x) = omega arith
few-first id degree last k false e =
    nothing-more (λ m. m ≡ 0) 0 0 _ (quiet 0 k (record { layer = Unreached; degree = degree; last = last }) refl) refl

module _ (net : Net) (ok : IsNetwork net) (v w : ℕ) where
  few-at : (p : ℕ) → Few (node_at layering net p v).0.layer p (sent_below (sent_by net v w) (suc p))
  few-at zero =
      let k : ℕ = port_to net v w in
      let g : ℕ → Option Hops = sent_by net v w in
      subst (λ (m : ℕ). Few (node_at layering net 0 v).0.layer 0 m) (sym (next g 0))
      (subst (λ (node : Layered × List (Option Hops)). Few node.0.layer 0 (with_slot 0 0 (at_port node.1 k))) (sym (node_at-none layering net v))
      (few-first (id_of net v) (degree_of net v) ((own_of net v).sizes.nodes - 1) k (nat_eq (id_of net v) ROOT_ID) refl))
  few-at (suc p) =
      let k : ℕ = port_to net v w in
      let g : ℕ → Option Hops = sent_by net v w in
      let s : Layered = (node_at layering net p v).0 in
      subst (λ (m : ℕ). Few (node_at layering net (suc p) v).0.layer (suc p) m) (sym (next g (suc p)))
      (subst (λ (node : Layered × List (Option Hops)). Few node.0.layer (suc p) (with_slot (sent_below g (suc p)) (suc p) (at_port node.1 k)))
      (sym (node_at-more layering net p v))
      (few-after s (degree_of net v) p (sent_below g (suc p)) k (heard s.last (suc p) (inbox_from net (node_at layering net p) v)) (few-at p)))

  pub layers-over : over layering net ok v w ≤ 1
  layers-over =
      let last : ℕ = last_pulse_on layering net in
      let most : sent_below (sent_by net v w) (suc last) ≤ 1 =
      few-once (node_at layering net last v).0.layer last (sent_below (sent_by net v w) (suc last)) (few-at last) in
      omega (arith, no-less (sent_by net v w) last (suc last) (omega arith), most)
