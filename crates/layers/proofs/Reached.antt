-- After p pulses a node knows its distance from the root if that is p at most, and a port that leads closer.
use Rattle.std.proofs.Common.{◌≡◌, ℕ, zero, suc, ◌-◌, ◌<◌, ◌≤◌, List, refl, ap, sym, subst, ◌∙◌, arith, inl, inr, true, false}
use Rattle.std.specs.Prelude.{Option, Some, None, nat_eq}
use Rattle.std.proofs.lemmas.Bool.{eqb-true, eq-eqb}
use Rattle.std.proofs.lemmas.Bool.Decides.{eqb_tells}
use native.Mathlib.Decide.{dec_lt}
use Prim.{yes, no}
use Rattle.interference.specs.Net.{Net, IsNetwork, IsVertex, id_of, count_of, degree_of, neighbour_of}
use Rattle.node_api.specs.Run.{inbox_from}
use Rattle.node_api.proofs.Runs.{node_at-none, length-inbox}
use Rattle.sync_rounds.specs.Reach.{IsWithinLinks}
use Rattle.distances.specs.Distance.{IsDistance, IsReached}
use Rattle.distances.proofs.Walks.{distance-from, distance-to, within-more}
use Rattle.distances.proofs.Chains.{distance-below}
use Rattle.layers.specs.declared.hops.Hops.{Hops}
use Rattle.layers.specs.declared.layer.Layer.{Layer}
use Rattle.layers.specs.declared.layer.Layer.TheVariants.{Unreached, Root, Away}
use Rattle.layers.specs.declared.layer.TheConstants.{ROOT_ID}
use Rattle.layers.specs.Layered.{Layered}
use Rattle.layers.specs.Layering.{first_layer, is_due, layer_after, layering}
use Rattle.layers.specs.Distances.{IsLayer, IsRoot, hops_of}
use Rattle.layers.proofs.Heard.{Hears}
use Rattle.layers.proofs.Rounds.{node, step, due-if, undue-if}

abbrev port_of : Layer → ℕ
port_of Unreached = 0
port_of Root = 0
port_of (Away hops port) = port

abbrev hops_or : Option ℕ → ℕ
hops_or None = 0
hops_or (Some hops) = hops

module _ (net : Net) (ok : IsNetwork net) where
  -- what a node that has made pulse p knows
  abbrev Knows : ℕ → ℕ → Layer → Type 0
  Knows p v Unreached = (root : ℕ) → IsRoot net root → IsWithinLinks net p v root → ⊥
  Knows p v Root = IsRoot net v
  Knows p v (Away hops port) = (root : ℕ) × (d : ℕ) × IsRoot net root × (hops ≡ suc d) × (hops ≤ p) × (port < degree_of net v)
      × IsDistance net v root hops × IsDistance net (neighbour_of net v port) root d

  one-root : (v w : ℕ) → IsRoot net v → IsRoot net w → v ≡ w
  one-root v w this other = ok.distinct v w this.0 other.0 (this.1 ∙ sym other.1)

  itself : (v : ℕ) → IsDistance net v v 0
  itself v = record { reached = refl; least = λ k within. omega arith }

  -- the pulse at which a node is due is its distance
  due-distance : (p q v : ℕ) (layer : Layer) → Knows p v layer → is_due layer q ≡ true → (root : ℕ) × IsRoot net root × IsDistance net v root q
  due-distance p q v Unreached knows due = let wrong : false ≡ true = due in absurd (cc)
  due-distance p q v Root knows due = (v, knows, subst (λ (n : ℕ). IsDistance net v v n) (sym (eqb-true q 0 due)) (itself v))
  due-distance p q v (Away hops port) (root, d, is_root, next, few, below, far, near) due =
      (root, is_root, subst (λ (n : ℕ). IsDistance net v root n) (sym (eqb-true q hops due)) far)

  -- a node within p links of the root was due at a pulse up to p
  due-once : (p v root : ℕ) (layer : Layer) → Knows p v layer → IsRoot net root → IsWithinLinks net p v root
      → (h : ℕ) × (h ≤ p) × (is_due layer h ≡ true) × IsWithinLinks net h v root
  due-once p v root Unreached knows is_root within = absurd (knows root is_root within)
  due-once p v root Root knows is_root within = (0, omega arith, refl, one-root root v is_root knows)
  due-once p v root (Away hops port) (other, d, is_other, next, few, below, far, near) is_root within =
      (hops, few, eq-eqb hops hops refl, subst (λ (w : ℕ). IsWithinLinks net hops v w) (one-root other root is_other is_root) far.reached)

  first-knows : (v : ℕ) → IsVertex net v → Knows zero v (first_layer (id_of net v))
  first-knows v vertex = elim (eqb_tells (id_of net v) ROOT_ID) [
    | inl same ↦ let test : nat_eq (id_of net v) ROOT_ID ≡ true = same.0 in rw test (vertex, same.1)
    | inr other ↦
        let test : nat_eq (id_of net v) ROOT_ID ≡ false = other.0 in
        rw test (λ root is_root within. other.1 (ap (id_of net) (sym within) ∙ is_root.1))
  ]

  advance : (p v : ℕ) → IsVertex net v → p < count_of net - 1 → (layer : Layer) → Knows p v layer
      → ((k : ℕ) → k < degree_of net v → Knows p (neighbour_of net v k) (node net ok p (neighbour_of net v k)).0.layer)
      → (first : Option ℕ) → Hears (suc p) 0 (inbox_from net (node net ok p) v) first → Knows (suc p) v (layer_after layer (suc p) first)
  advance p v vertex early Root knows beside first heard = knows
  advance p v vertex early (Away hops port) (root, d, is_root, next, few, below, far, near) beside first heard =
      (root, d, is_root, next, omega (arith, few), below, far, near)
  advance p v vertex early Unreached knows beside None heard = λ root is_root within. elim within [
    | inl near ↦ knows root is_root near
    | inr (k, below, near) ↦
        let w : ℕ = neighbour_of net v k in
        let (h, few, due, close) = due-once p w root (node net ok p w).0.layer (beside k below) is_root near in
        elim (dec_lt h p) [
          | yes less ↦ knows root is_root (within-more net (suc h) p v root (omega arith) (inr (k, below, close)))
          | no other ↦
              let now : h ≡ p = omega (arith, few) in
              undue-if net ok p v k vertex early below (heard k (omega (arith, length-inbox net (node net ok p) v)))
              (subst (λ (q : ℕ). is_due (node net ok p w).0.layer q ≡ true) now due)
        ]
  ]
  advance p v vertex early Unreached knows beside (Some found) (k, below, is, (x, at)) =
      let in_row : k < degree_of net v = omega (arith, length-inbox net (node net ok p) v) in
      let w : ℕ = neighbour_of net v k in
      let port : k ≡ found = omega (arith, is) in
      let (root, is_root, near) = due-distance p p w (node net ok p w).0.layer (beside k in_row) (due-if net ok p v k x vertex early in_row at) in
      let far : IsDistance net v root (suc p) = distance-from net p v root (inr (k, in_row, near.reached)) (knows root is_root) in
      (root, p, is_root, refl, omega arith, omega (arith, is), far, subst (λ (q : ℕ). IsDistance net (neighbour_of net v q) root p) port near)

  knows-at : (p v : ℕ) → IsVertex net v → p ≤ count_of net - 1 → Knows p v (node net ok p v).0.layer
  knows-at zero v vertex early =
      subst (λ (n : Layered × List (Option Hops)). Knows zero v n.0.layer) (sym (node_at-none layering net v)) (first-knows v vertex)
  knows-at (suc p) v vertex early =
      let (first, (new, heard)) = step net ok p v early in
      subst (λ (n : Layered × List (Option Hops)). Knows (suc p) v n.0.layer) (sym new)
      (advance p v vertex early (node net ok p v).0.layer (knows-at p v vertex (omega arith))
      (λ k below. knows-at p (neighbour_of net v k) (ok.vertices v k vertex below) (omega arith)) first heard)

  soon : (v w : ℕ) → IsVertex net v → IsReached net v w → IsWithinLinks net (count_of net - 1) v w
  soon v w vertex reached =
      let (d, is) = distance-to net reached.0 v w reached.1 in
      within-more net d (count_of net - 1) v w (omega (arith, distance-below net ok w d v vertex is)) is.reached

  is-layer : (v : ℕ) → IsVertex net v → (layer : Layer) → Knows (count_of net - 1) v layer → IsLayer net v layer
  is-layer v vertex Unreached knows = record {
    distance = λ hops e. absurd (cc);
    closer = λ hops port e. absurd (cc);
    unreached = (λ e root is_root reached. knows root is_root (soon v root vertex reached), λ none. refl);
  }
  is-layer v vertex Root knows = record {
    distance = λ hops e. (v, knows, subst (λ (n : ℕ). IsDistance net v v n) (ap hops_or e) (itself v));
    closer = λ hops port e. absurd (cc);
    unreached = (λ e. absurd (cc), λ none. absurd (none v knows (0, refl)));
  }
  is-layer v vertex (Away hops port) (root, d, is_root, next, few, below, far, near) = record {
    distance = λ h e. (root, is_root, subst (λ (n : ℕ). IsDistance net v root n) (ap hops_or e) far);
    closer = λ h q e.
        let same : hops ≡ h = ap (λ (l : Layer). hops_or (hops_of l)) e in
        let at : port ≡ q = ap port_of e in
        (root, d, is_root, omega (arith, next), omega (arith, below), subst (λ (k : ℕ). IsDistance net (neighbour_of net v k) root d) at near);
    unreached = (λ e. absurd (cc), λ none. absurd (none root is_root (hops, far.reached)));
  }

  pub finds : (v : ℕ) → IsVertex net v → IsLayer net v (node net ok (count_of net - 1) v).0.layer
  finds v vertex = is-layer v vertex _ (knows-at (count_of net - 1) v vertex (omega arith))
