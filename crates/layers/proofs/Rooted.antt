-- The layers of a network of which the root is known.
use Rattle.std.proofs.Common.{◌≡◌, ℕ, subst, sym, ◌∙◌}
use Rattle.interference.specs.Net.{Net, IsNetwork, neighbour_of}
use Rattle.distances.specs.Distance.{IsDistance, IsReached}
use Rattle.layers.specs.declared.layer.Layer.{Layer}
use Rattle.layers.specs.Distances.{IsLayer, IsLayerFrom, IsRoot}

module _ (net : Net) (ok : IsNetwork net) (root : ℕ) (is_root : IsRoot net root) where
  -- there is no other root
  only-root : (w : ℕ) → IsRoot net w → w ≡ root
  only-root w other = ok.distinct w root other.0 is_root.0 (other.1 ∙ sym is_root.1)

  pub from-root : (v : ℕ) (layer : Layer) → IsLayer net v layer → IsLayerFrom net root v layer
  from-root v layer is = record {
    distance = λ hops says.
        let (other, is_other, far) = is.distance hops says in
        subst (λ (w : ℕ). IsDistance net v w hops) (only-root other is_other) far;
    closer = λ hops port away.
        let (other, d, is_other, next, below, near) = is.closer hops port away in
        (d, next, below, subst (λ (w : ℕ). IsDistance net (neighbour_of net v port) w d) (only-root other is_other) near);
    unreached = (
      λ none reached. is.unreached.0 none root is_root reached,
      λ far. is.unreached.1 (λ other is_other reached. far (subst (λ (w : ℕ). IsReached net v w) (only-root other is_other) reached)),
    );
  }
