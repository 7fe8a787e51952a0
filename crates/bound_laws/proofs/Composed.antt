-- The run of a program that is followed is composed: up to the cut by `same_run`, and then pulse by pulse.
use Rattle.std.proofs.Common.{◌≡◌, ℕ, zero, suc, ◌+◌, ◌-◌, ◌≤◌, List, refl, ap, ◌∙◌, arith}
use Rattle.std.specs.Prelude.{Option, Result, Ok, Err}
use Rattle.interference.specs.Net.{Net, IsNetwork, IsVertex, degree_of, neighbour_of, neighbours, port_to}
use Rattle.node_api.specs.Boxes.{at_port}
use Rattle.node_api.specs.Program.{Program, sizes_of}
use Rattle.node_api.specs.Run.{after, inbox_from, node_at, sent_at, state_at}
use Rattle.node_api.specs.declared.program.Refused.{Refused}
use Rattle.node_api.proofs.Inboxes.{map-members}
use Rattle.node_api.proofs.Runs.{node_at-more}
use Rattle.followed.specs.declared.said.Said.{Said}
use Rattle.followed.specs.Said.{said}
use Rattle.followed.specs.Followed.{Both, IsCut, Sequel, beside_of, followed, keeping}
use Rattle.followed.specs.RunLaws.{at_port-said, goes_on, same_run}
use Rattle.bound_laws.specs.Composition.{IsComposition, cut_on, run_after, sequel_at}

-- the nodes of two runs that send alike bring the same inbox
pub same_inbox : {S T M : Type 0} (net : Net) → IsNetwork net → (a : ℕ → S × List (Option M)) (b : ℕ → T × List (Option M))
    → ((w : ℕ) → IsVertex net w → (a w).1 ≡ (b w).1) → (v : ℕ) → IsVertex net v → inbox_from net a v ≡ inbox_from net b v
same_inbox {M = M} net ok a b same v is_vertex =
    map-members (λ w. at_port (a w).1 (port_to net w v)) (λ w. at_port (b w).1 (port_to net w v)) (neighbours net v)
    (λ k below. let w : ℕ = neighbour_of net v k in
    ap (λ (out : List (Option M)). at_port out (port_to net w v)) (same w (ok.vertices v k is_vertex below)))

module _ {S X A B : Type 0} (first : Program S A Refused) (sequel : Sequel S X A B) (laws : IsCut first sequel) (net : Net)
    (ok : IsNetwork net) where
  after-keeping : (s : S) (x : X) (degree : ℕ) (r : Result (X × List (Option (Said A B))) Refused)
      → after (record { first = s; beside = x }) degree (keeping s r) ≡ beside_of s (after x degree r)
  after-keeping s x degree (Ok next) = refl
  after-keeping s x degree (Err refused) = refl

  pub after_cut : (q v : ℕ) → IsVertex net v → node_at (followed first sequel) net (laws.cut (sizes_of net) + q) v
      ≡ beside_of (state_at first net (laws.cut (sizes_of net)) v) (run_after first sequel net (laws.cut (sizes_of net)) q v)
  unfolding sequel_at
  after_cut zero v is_vertex =
      let c : ℕ = laws.cut (sizes_of net) in
      let e : c + zero ≡ c = omega arith in
      ap (λ (p : ℕ). node_at (followed first sequel) net p v) e
      ∙ same_run first sequel laws net ok c v is_vertex (omega arith)
  after_cut (suc q) v is_vertex =
      let c : ℕ = laws.cut (sizes_of net) in
      let p : ℕ = c + q in
      let s : S = state_at first net c v in
      let x : X = (run_after first sequel net c q v).0 in
      let at : ℕ → Both S X × List (Option (Said A B)) = node_at (followed first sequel) net p in
      let before : at v ≡ beside_of s (run_after first sequel net c q v) = after_cut q v is_vertex in
      let inbox : List (Option (Said A B)) = inbox_from net (run_after first sequel net c q) v in
      let came : inbox_from net at v ≡ inbox =
      same_inbox net ok at (run_after first sequel net c q)
      (λ w inside. ap (λ (node : Both S X × List (Option (Said A B))). node.1) (after_cut q w inside)) v is_vertex in
      let e : c + suc q ≡ suc p = omega arith in
      let pulse : p - c ≡ q = omega arith in
      let beside : (at v).0.beside ≡ x = ap (λ (node : Both S X × List (Option (Said A B))). node.0.beside) before in
      ap (λ (n : ℕ). node_at (followed first sequel) net n v) e
      ∙ (node_at-more (followed first sequel) net p v
      ∙ (ap (after (at v).0 (degree_of net v)) (goes_on first sequel laws net ok p v is_vertex (omega arith))
      ∙ (ap (λ (n : ℕ). after (at v).0 (degree_of net v) (keeping s (sequel.next s (at v).0.beside n (inbox_from net at v)))) pulse
      ∙ (ap (λ (slots : List (Option (Said A B))). after (at v).0 (degree_of net v) (keeping s (sequel.next s (at v).0.beside q slots))) came
      ∙ (ap (λ (t : Both S X). after t (degree_of net v) (keeping s (sequel.next s t.beside q inbox)))
      (ap (λ (node : Both S X × List (Option (Said A B))). node.0) before)
      ∙ after-keeping s x (degree_of net v) (sequel.next s x q inbox))))))

  pub composed : IsComposition first sequel net (cut_on laws net)
  composed = record {
    up_to_the_cut = λ p v is_vertex h. same_run first sequel laws net ok p v is_vertex h;
    after_the_cut = after_cut;
  }

  -- up to the cut it sends what the first program sends
  pub first_sends : (p v w : ℕ) → IsVertex net v → p ≤ cut_on laws net
      → sent_at (followed first sequel) net p v w ≡ said (sent_at first net p v w)
  first_sends p v w is_vertex low =
      ap (λ (node : Both S X × List (Option (Said A B))). at_port node.1 (port_to net v w))
      (same_run first sequel laws net ok p v is_vertex low)
      ∙ at_port-said {A = A} {B = B} (node_at first net p v).1 (port_to net v w)
