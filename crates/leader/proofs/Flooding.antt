-- After p pulses a node knows the greatest identifier within p links; and what is reached is reached within as many links
-- as there are nodes.
use Rattle.std.proofs.Common.{◌≡◌, ℕ, zero, suc, ◌<◌, ◌≤◌, List, refl, ap, sym, ◌∙◌, arith, inl, inr}
use Rattle.std.specs.Prelude.{Option}
use Rattle.interference.specs.Net.{Net, IsNetwork, IsVertex, id_of, count_of, degree_of, neighbour_of}
use Rattle.node_api.proofs.Runs.{node_at-none, length-inbox}
use Rattle.leader.specs.Elector.{Elector}
use Rattle.sync_rounds.specs.Reach.{IsGreatestWithin, IsWithinLinks}
use Rattle.distances.specs.Distance.{IsReached}
use Rattle.distances.proofs.Walks.{distance-to, within-more}
use Rattle.distances.proofs.Chains.{distance-below}
use Rattle.distances.proofs.Classes.{classes}
use Rattle.leader.specs.declared.candidate.Candidate.{Candidate}
use Rattle.leader.specs.Election.{election}
use Rattle.leader.specs.Component.{HaveElected, IsGreatestReached}
use Rattle.leader.proofs.Rounds.{node, step, from, heard-of}

module _ (net : Net) (ok : IsNetwork net) where
  abbrev pub best : ℕ → ℕ → ℕ
  best p v = (node net ok p v).0.best

  pub floods : (p v : ℕ) → IsVertex net v → p ≤ count_of net → IsGreatestWithin net p v (best p v)
  floods zero v vertex few =
      let own : best zero v ≡ id_of net v = ap (λ (n : Elector × List (Option Candidate)). n.0.best) (node_at-none election net v) in
      record {
        reached = (v, vertex, refl, own);
        bound = λ w same. omega (arith, own, ap (id_of net) same);
      }
  floods (suc p) v vertex few =
      let (is, out) = step net ok p v few in
      let before : IsGreatestWithin net p v (best p v) = floods p v vertex (omega arith) in
      record {
        reached = elim is.one [
          | inl same ↦ let (w, is_vertex, within, value) = before.reached in (w, is_vertex, inl within, same ∙ value)
          | inr (k, x, below, at, one) ↦
              let in_row : k < degree_of net v = omega (arith, length-inbox net (node net ok p) v) in
              let known : x.0 ≡ best p (neighbour_of net v k) = from net ok p v k x vertex few in_row at in
              let (w, is_vertex, within, value) = (floods p (neighbour_of net v k) (ok.vertices v k vertex in_row) (omega arith)).reached in
              (w, is_vertex, inr (k, in_row, within), one ∙ (known ∙ value))
        ];
        bound = λ w within. elim within [
          | inl near ↦ omega (arith, before.bound w near, is.start)
          | inr (k, below, near) ↦
              omega (arith, (floods p (neighbour_of net v k) (ok.vertices v k vertex below) (omega arith)).bound w near, heard-of net ok p v k vertex few below)
        ];
      }

  -- what is reached is reached over as many links as there are nodes
  soon : (v w : ℕ) → IsVertex net v → IsReached net v w → IsWithinLinks net (count_of net) v w
  soon v w vertex reached =
      let (d, is) = distance-to net reached.0 v w reached.1 in
      within-more net d (count_of net) v w (omega (arith, distance-below net ok w d v vertex is)) is.reached

  pub elects : (v : ℕ) → IsVertex net v → IsGreatestReached net v (best (count_of net) v)
  elects v vertex =
      let n : ℕ = count_of net in
      let is : IsGreatestWithin net n v (best n v) = floods n v vertex (omega arith) in
      record {
        reached = let (w, is_vertex, within, value) = is.reached in (w, is_vertex, (n, within), value);
        bound = λ w reached. is.bound w (soon v w vertex reached);
      }

  -- what is reached from v is known to v
  known : (v w : ℕ) → IsVertex net v → IsReached net v w → best (count_of net) w ≤ best (count_of net) v
  known v w vertex reached =
      let is = classes net ok in
      let (u, u_is, there, value) = (elects w (is.vertices v w vertex reached)).reached in
      omega (arith, value, (elects v vertex).bound u (is.transitive v w u reached there))

  pub one-leader : HaveElected net (best (count_of net))
  one-leader = record {
    same = λ v w vertex reached.
        let is = classes net ok in
        omega (arith, known v w vertex reached, known w v (is.vertices v w vertex reached) (is.symmetric v w vertex reached));
    leader = λ v vertex.
        let (w, w_is, there, value) = (elects v vertex).reached in
        (w, w_is, there, sym value, λ u reached same. ok.distinct u w ((classes net ok).vertices v u vertex reached) w_is (same ∙ value));
  }
