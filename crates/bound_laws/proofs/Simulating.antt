-- Nodes that simulate a program that is followed simulate both, since its run is composed.
use Rattle.std.proofs.Common.{◌≡◌, ℕ, suc, ◌+◌, ◌-◌, ◌≤◌, List, ap, sym, ◌∙◌, arith}
use Rattle.std.specs.Prelude.{map, Option}
use Rattle.std.proofs.lemmas.Simd.{map-map}
use Rattle.interference.specs.Net.{Net, IsNetwork, IsVertex, neighbours, neighbour_of, port_to}
use Rattle.node_api.specs.Boxes.{at_port}
use Rattle.node_api.specs.Program.{Program}
use Rattle.node_api.specs.Run.{inbox_at, node_at, state_at}
use Rattle.node_api.specs.declared.program.Refused.{Refused}
use Rattle.node_api.proofs.Inboxes.{map-members}
use Rattle.wires.specs.declared.wire.Wire.{Wire}
use Rattle.alpha_core.specs.View.{Node}
use Rattle.alpha_laws.specs.Simulates.{Simulates}
use Rattle.followed.specs.declared.said.Said.{Said}
use Rattle.followed.specs.Said.{said}
use Rattle.followed.specs.Followed.{Both, IsCut, Sequel, followed}
use Rattle.bound_laws.specs.Composition.{cut_on, run_after}
use Rattle.bound_laws.specs.Simulated.{SimulateBoth}
use Rattle.followed.specs.RunLaws.{at_port-said}
use Rattle.bound_laws.proofs.Composed.{composed, same_inbox}

module _ {S X A B : Type 0} (first : Program S A Refused) (sequel : Sequel S X A B) (laws : IsCut first sequel) (net : Net)
    (ok : IsNetwork net) where
  abbrev at : ℕ → ℕ → Both S X × List (Option (Said A B))
  at p v = node_at (followed first sequel) net p v

  first_inbox : (p v : ℕ) → IsVertex net v → p ≤ cut_on laws net → inbox_at (followed first sequel) net (suc p) v
      ≡ map said (inbox_at first net (suc p) v)
  first_inbox p v is_vertex low =
      map-members (λ w. at_port (at p w).1 (port_to net w v)) (λ w. said (at_port (node_at first net p w).1 (port_to net w v)))
      (neighbours net v)
      (λ k below. let w : ℕ = neighbour_of net v k in
      ap (λ (node : Both S X × List (Option (Said A B))). at_port node.1 (port_to net w v))
      ((composed first sequel laws net ok).up_to_the_cut p w (ok.vertices v k is_vertex below) low)
      ∙ at_port-said {A = A} {B = B} (node_at first net p w).1 (port_to net w v))
      ∙ sym (map-map said (λ w. at_port (node_at first net p w).1 (port_to net w v)) (neighbours net v))

  then_at : (p v : ℕ) → IsVertex net v → cut_on laws net ≤ p
      → at p v ≡ (
        record {
          first = state_at first net (cut_on laws net) v;
          beside = (run_after first sequel net (cut_on laws net) (p - cut_on laws net) v).0;
        },
        (run_after first sequel net (cut_on laws net) (p - cut_on laws net) v).1,
      )
  then_at p v is_vertex late =
      let e : p ≡ cut_on laws net + (p - cut_on laws net) = omega (arith, late) in
      ap (λ (n : ℕ). at n v) e ∙ (composed first sequel laws net ok).after_the_cut (p - cut_on laws net) v is_vertex

  pub simulate_both : (nodes : ℕ → Node (Both S X) (Said A B)) (sent taken : ℕ → ℕ → List (Wire (Said A B)))
      → Simulates (followed first sequel) net nodes sent taken → SimulateBoth first sequel net (cut_on laws net) nodes taken
  simulate_both nodes sent taken is = record {
    first_state = λ v is_vertex low. (is.fits v is_vertex).state
        ∙ ap (λ (node : Both S X × List (Option (Said A B))). node.0)
        ((composed first sequel laws net ok).up_to_the_cut (nodes v).view.pulse v is_vertex low);
    then_state = λ v is_vertex late. (is.fits v is_vertex).state
        ∙ ap (λ (node : Both S X × List (Option (Said A B))). node.0) (then_at (nodes v).view.pulse v is_vertex late);
    first_inboxes = λ v p is_vertex made early. is.exact_inboxes v p is_vertex made
        ∙ first_inbox p v is_vertex (omega (arith, early));
    then_inboxes = λ v p is_vertex made late. is.exact_inboxes v p is_vertex made
        ∙ same_inbox net ok (at p) (run_after first sequel net (cut_on laws net) (p - cut_on laws net))
        (λ w inside. ap (λ (node : Both S X × List (Option (Said A B))). node.1) (then_at p w inside late)) v is_vertex;
  }
