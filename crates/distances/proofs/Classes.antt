-- To be reached is an equivalence of vertices.
use Rattle.std.proofs.Common.{ℕ, zero, suc, refl, sym, subst, inl, inr}
use Rattle.interference.specs.Net.{Net, IsNetwork, IsVertex, back_port_of, neighbour_of}
use Rattle.interference.proofs.Neighbours.{at-back_port}
use Rattle.sync_rounds.specs.Reach.{IsWithinLinks}
use Rattle.distances.specs.Distance.{AreClasses, IsReached}

module _ (net : Net) where
  onward : (d u v w : ℕ) → IsWithinLinks net d u v → IsReached net v w → IsReached net u w
  onward zero u v w same reached = subst (λ (x : ℕ). IsReached net x w) same reached
  onward (suc d) u v w within reached = elim within [
    | inl near ↦ onward d u v w near reached
    | inr (port, below, near) ↦
        let (e, is) = onward d (neighbour_of net u port) v w near reached in
        (suc e, inr (port, below, is))
  ]

module _ (net : Net) (ok : IsNetwork net) where
  vertex-at : (d v w : ℕ) → IsVertex net v → IsWithinLinks net d v w → IsVertex net w
  vertex-at zero v w vertex same = subst (λ (x : ℕ). IsVertex net x) (sym same) vertex
  vertex-at (suc d) v w vertex within = elim within [
    | inl near ↦ vertex-at d v w vertex near
    | inr (port, below, near) ↦ vertex-at d (neighbour_of net v port) w (ok.vertices v port vertex below) near
  ]

  -- a neighbour leads back over one link
  back : (d v w : ℕ) → IsVertex net v → IsWithinLinks net d v w → IsReached net w v
  back zero v w vertex same = (0, sym same)
  back (suc d) v w vertex within = elim within [
    | inl near ↦ back d v w vertex near
    | inr (port, below, near) ↦
        let u : ℕ = neighbour_of net v port in
        let (e, is) = back d u w (ok.vertices v port vertex below) near in
        onward net e w u v is (1, inr (back_port_of net v port, ok.symmetric v port vertex below, sym (at-back_port net ok v port vertex below)))
  ]

  pub classes : AreClasses net
  classes = record {
    reflexive = λ v. (0, refl);
    symmetric = λ v w vertex reached. back reached.0 v w vertex reached.1;
    transitive = λ u v w there on. onward net there.0 u v w there.1 on;
    vertices = λ v w vertex reached. vertex-at reached.0 v w vertex reached.1;
  }
