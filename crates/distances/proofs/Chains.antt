-- The vertices of a shortest way are distinct, since their distances are; so they are no more than the network has.
use Rattle.std.proofs.Common.{◌≡◌, ◌≢◌, ℕ, zero, suc, ◌<◌, ◌≤◌, List, [], ◌∷◌, length, refl, sym, subst, arith}
use Rattle.std.specs.Prelude.{AllPairs, All}
use Rattle.std.proofs.lemmas.Bool.{eqb-true}
use Rattle.std.proofs.lemmas.Bool.Decides.{Decides-eqb}
use Rattle.std.proofs.lemmas.List.Elements.{All-cons, All-nil, All-contains}
use Rattle.std.proofs.lemmas.List.Kept.{AllPairs-cons}
use Rattle.std.proofs.lemmas.Map.Made.{IsDistinct-from_AllPairs}
use Rattle.std.proofs.lemmas.Map.Steps.{length-le_from_distinct_below}
use Rattle.std.proofs.lemmas.Map.Views.{Contains-from_any}
use Rattle.interference.specs.Net.{Net, IsNetwork, IsVertex, count_of, neighbour_of}
use Rattle.sync_rounds.specs.Reach.{IsWithinLinks}
use Rattle.distances.specs.Distance.{IsDistance}
use Rattle.distances.proofs.Walks.{closer}

module _ (net : Net) (ok : IsNetwork net) (w : ℕ) where
  -- a vertex whose distance to w is d at most
  abbrev IsNear : ℕ → ℕ → Type 0
  IsNear d u = IsVertex net u × ((e : ℕ) × (e ≤ d) × IsDistance net u w e)

  -- distinct vertices, of the distances d to 0
  record Chain (d : ℕ) : Type 0 where
    pub vertices : List ℕ
    pub size : length vertices ≡ suc d
    pub near : All (IsNear d) vertices
    pub distinct : AllPairs (λ u v. u ≢ v) vertices

  -- a vertex that is farther isn't one that is nearer
  apart : (d v u : ℕ) → IsDistance net v w (suc d) → IsNear d u → v ≢ u
  apart d v u far (vertex, (e, few, near)) same =
      omega (arith, far.least e (subst (λ (x : ℕ). IsWithinLinks net e x w) (sym same) near.reached))

  chain : (d v : ℕ) → IsVertex net v → IsDistance net v w d → Chain d
  chain zero v vertex h = record {
    vertices = v ∷ [];
    size = refl;
    near = All-cons (IsNear zero) v [] (vertex, (0, omega arith, h)) (All-nil (IsNear zero));
    distinct = AllPairs-cons (λ x y. x ≢ y) v [] (All-nil (λ u. v ≢ u)) (λ i j d less below. absurd (omega arith));
  }
  chain (suc d) v vertex h =
      let (port, below, near) = closer net d v w h in
      let rest : Chain d = chain d (neighbour_of net v port) (ok.vertices v port vertex below) near in
      record {
        vertices = v ∷ rest.vertices;
        size = omega (arith, rest.size);
        near = All-cons (IsNear (suc d)) v rest.vertices (vertex, (suc d, omega arith, h))
            (λ k e low. let (is_vertex, (c, few, is)) = rest.near k e low in (is_vertex, (c, omega arith, is)));
        distinct = AllPairs-cons (λ x y. x ≢ y) v rest.vertices
            (λ k e low. apart d v _ h (rest.near k e low)) rest.distinct;
      }

  -- with 0, which is no vertex, these are distinct numbers up to the number of nodes
  pub distance-below : (d v : ℕ) → IsVertex net v → IsDistance net v w d → d < count_of net
  distance-below d v vertex h =
      let vs : Chain d = chain d v vertex h in
      let all : List ℕ = 0 ∷ vs.vertices in
      let others : All (λ u. 0 ≢ u) vs.vertices = λ k e low same. omega (arith, (vs.near k e low).0.0) in
      let low : All (λ u. u < suc (count_of net)) all =
      All-cons (λ u. u < suc (count_of net)) 0 vs.vertices (omega arith) (λ k e below. omega (arith, (vs.near k e below).0.1)) in
      let distinct : AllPairs (λ x y. x ≢ y) all = AllPairs-cons (λ x y. x ≢ y) 0 vs.vertices others vs.distinct in
      let few : length all ≤ suc (count_of net) =
      length-le_from_distinct_below all (suc (count_of net)) (IsDistinct-from_AllPairs Decides-eqb all distinct)
      (λ q has. All-contains (λ u. u < suc (count_of net)) all q low (Contains-from_any eqb-true q all has)) in
      omega (arith, vs.size)
