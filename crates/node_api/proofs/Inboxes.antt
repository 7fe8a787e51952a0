-- What is in the inbox of a node if each node's outbox is by its neighbours.
use Rattle.std.proofs.Common.{◌≡◌, ℕ, suc, ◌<◌, List, [], ◌∷◌, length, refl, ap, ◌∙◌, arith, get_or}
use Rattle.std.specs.Prelude.{map, Option, None}
use Rattle.std.proofs.lemmas.List.{get_or-map}
use Rattle.interference.specs.Net.{Net, IsNetwork, IsVertex, degree_of, neighbours, neighbour_of, port_to}
use Rattle.interference.proofs.Members.{place_of-is}
use Rattle.node_api.specs.Boxes.{at_port}
use Rattle.node_api.specs.Run.{inbox_from}

-- two functions that agree on the members of a list
pub map-members : {X : Type 0} (f g : ℕ → X) (ws : List ℕ) → ((k : ℕ) → k < length ws → f (get_or ws k 0) ≡ g (get_or ws k 0)) → map f ws ≡ map g ws
map-members f g [] same = refl
map-members f g (w ∷ ws) same =
    let now : f w ≡ g w = same 0 (omega arith) in
    let rest : map f ws ≡ map g ws = map-members f g ws (λ k h. same (suc k) (omega arith)) in
    cc

-- what comes at a port is what the neighbour there sends at the port that leads back
pub at_port-inbox : {S M : Type 0} (net : Net) (nodes : ℕ → S × List (Option M)) (v k : ℕ) → k < degree_of net v →
    at_port (inbox_from net nodes v) k ≡ at_port (nodes (neighbour_of net v k)).1 (port_to net (neighbour_of net v k) v)
at_port-inbox net nodes v k below = get_or-map (λ (u : ℕ). at_port (nodes u).1 (port_to net u v)) (neighbours net v) k 0 None below

-- what each node sends is by its neighbours
module _ {S M : Type 0} (net : Net) (ok : IsNetwork net) (nodes : ℕ → S × List (Option M)) (sent : ℕ → ℕ → Option M) (out : (w : ℕ) → IsVertex net w →
    (nodes w).1 ≡ map (sent w) (neighbours net w)) where
  slot_is : (v k : ℕ) → IsVertex net v → k < degree_of net v → at_port (nodes (neighbour_of net v k)).1 (port_to net (neighbour_of net v k) v)
      ≡ sent (neighbour_of net v k) v
  slot_is v k is_vertex below =
      let w : ℕ = neighbour_of net v k in
      let place : port_to net w v < length (neighbours net w) = ok.symmetric v k is_vertex below in
      ap (λ slots. at_port slots (port_to net w v)) (out w (ok.vertices v k is_vertex below))
      ∙ (get_or-map (sent w) (neighbours net w) (port_to net w v) 0 None place ∙ ap (sent w) (place_of-is v (neighbours net w) 0 place))

  pub inbox_is : (v : ℕ) → IsVertex net v → inbox_from net nodes v ≡ map (λ w. sent w v) (neighbours net v)
  inbox_is v is_vertex = map-members (λ w. at_port (nodes w).1 (port_to net w v)) (λ w. sent w v) (neighbours net v) (λ k below. slot_is v k is_vertex below)
