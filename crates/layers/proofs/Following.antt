-- The ports of layers lead to the root: each leads to a node whose layer is one less.
use Rattle.std.proofs.Common.{◌≡◌, ℕ, zero, suc, refl, ap, sym, subst, ◌∙◌, arith}
use Rattle.std.specs.Prelude.{Option, Some, None}
use Rattle.interference.specs.Net.{Net, IsNetwork, IsVertex, neighbour_of}
use Rattle.distances.specs.Distance.{IsDistance}
use Rattle.layers.specs.declared.layer.Layer.{Layer}
use Rattle.layers.specs.declared.layer.Layer.TheVariants.{Unreached, Root, Away}
use Rattle.layers.specs.Distances.{IsLayer, IsRoot, followed, hops_of, towards}

abbrev number : Option ℕ → ℕ
number None = 0
number (Some n) = n

module _ (net : Net) (ok : IsNetwork net) (layers : ℕ → Layer) (are : (v : ℕ) → IsVertex net v → IsLayer net v (layers v)) where
  one-root : (v w : ℕ) → IsRoot net v → IsRoot net w → v ≡ w
  one-root v w this other = ok.distinct v w this.0 other.0 (this.1 ∙ sym other.1)

  -- a distance that a layer says is the distance
  same-hops : (v root d hops : ℕ) (layer : Layer) → IsLayer net v layer → IsRoot net root → IsDistance net v root d
      → hops_of layer ≡ Some hops → hops ≡ d
  same-hops v root d hops layer is is_root far says =
      let (other, is_other, near) = is.distance hops says in
      let there : IsDistance net v root hops = subst (λ (w : ℕ). IsDistance net v w hops) (one-root other root is_other is_root) near in
      omega (arith, there.least d far.reached, far.least hops there.reached)

  -- so a node at this distance says it
  says-hops : (v root d : ℕ) (layer : Layer) → IsLayer net v layer → IsRoot net root → IsDistance net v root d → hops_of layer ≡ Some d
  says-hops v root d Unreached is is_root far = absurd (is.unreached.0 refl root is_root (d, far.reached))
  says-hops v root d Root is is_root far = ap (λ (n : ℕ). Some n) (same-hops v root d 0 Root is is_root far refl)
  says-hops v root d (Away hops port) is is_root far = ap (λ (n : ℕ). Some n) (same-hops v root d hops (Away hops port) is is_root far refl)

  pub leads : (hops v : ℕ) → IsVertex net v → (layer : Layer) → layers v ≡ layer → hops_of layer ≡ Some hops
      → IsRoot net (followed net layers hops v)
  leads hops v vertex Unreached here says = absurd (cc)
  leads zero v vertex Root here says =
      let (root, is_root, near) = (are v vertex).distance 0 (ap hops_of here) in
      subst (λ (w : ℕ). IsRoot net w) near.reached is_root
  leads (suc k) v vertex Root here says = let wrong : 0 ≡ suc k = ap number says in absurd (omega (arith, wrong))
  leads zero v vertex (Away h port) here says =
      let (root, d, is_root, one, below, near) = (are v vertex).closer h port here in
      let wrong : h ≡ 0 = ap number says in absurd (omega (arith, wrong, one))
  leads (suc k) v vertex (Away h port) here says =
      let (root, d, is_root, one, below, near) = (are v vertex).closer h port here in
      let less : d ≡ k = (let e : h ≡ suc k = ap number says in omega (arith, e, one)) in
      let u : ℕ = neighbour_of net v port in
      let u_is : IsVertex net u = ok.vertices v port vertex below in
      let closer : IsDistance net u root k = subst (λ (n : ℕ). IsDistance net u root n) less near in
      let on : IsRoot net (followed net layers k u) = leads k u u_is (layers u) refl (says-hops u root k (layers u) (are u u_is) is_root closer) in
      subst (λ (l : Layer). IsRoot net (followed net layers k (towards net l v))) (sym here) on
