-- The state of a network of nodes: each node, and of each direction of a link what was put on it and what was taken.
use Rattle.std.specs.Prelude.{ℕ, ◌-◌, ◌<◌, ◌≤◌, List, [], ◌∷◌, ◌++◌, length, map, take, drop, replicate, slice_index_or}
use Rattle.std.specs.Prelude.{slice_set}
use Rattle.interference.specs.Net.{Net, vertices, degree_of, neighbour_of, back_port_of}
use Rattle.node_api.specs.Program.{Program, last_pulse_on}
use Rattle.wires.specs.declared.wire.Wire.{Wire}
use Rattle.alpha_core.specs.View.{Node, Alpha}
use Rattle.alpha_core.specs.Program.{start_node}

-- One direction of a link: the wires that were taken, and those that were put and not taken, oldest first.
pub record Link (M : Type 0) : Type 0 where
  pub taken : List (Wire M)
  pub held : List (Wire M)

-- all that was put on it, in order
abbrev pub sent_of : {M : Type 0} → Link M → List (Wire M)
sent_of link = link.taken ++ link.held

-- the oldest wire that it holds was taken
abbrev pub take_one : {M : Type 0} → Link M → Link M
take_one link = record { taken = link.taken ++ take 1 link.held; held = drop 1 link.held }

-- a wire was put on it
abbrev pub put_one : {M : Type 0} → Wire M → Link M → Link M
put_one wire link = record { taken = link.taken; held = link.held ++ (wire ∷ []) }

-- nothing was put on it
abbrev pub no_link : {M : Type 0} → Link M
no_link = record { taken = []; held = [] }

-- Entry v - 1 of each list is of vertex v: its node, and the links out of it, by port.
pub record State (S M : Type 0) : Type 0 where
  pub nodes : List (Node S M)
  pub links : List (List (Link M))

abbrev pub node_of : {S M E : Type 0} → Program S M E → Net → State S M → ℕ → Node S M
node_of program net state v = slice_index_or state.nodes (v - 1) (start_node program net v)

-- the link out of v by port i
abbrev pub link_at : {M : Type 0} → List (List (Link M)) → ℕ → ℕ → Link M
link_at links v i = slice_index_or (slice_index_or links (v - 1) []) i no_link

-- there is a link out of v by port i
abbrev pub HasLink : {M : Type 0} → List (List (Link M)) → ℕ → ℕ → Type 0
HasLink links v i = (1 ≤ v) × (v - 1 < length links) × (i < length (slice_index_or links (v - 1) []))

-- the link that comes to v by port i
abbrev pub link_to : {M : Type 0} → Net → List (List (Link M)) → ℕ → ℕ → Link M
link_to net links v i = link_at links (neighbour_of net v i) (back_port_of net v i)

abbrev pub set_node : {S M : Type 0} → List (Node S M) → ℕ → Node S M → List (Node S M)
set_node nodes v node = slice_set nodes (v - 1) node

abbrev pub set_link : {M : Type 0} → List (List (Link M)) → ℕ → ℕ → Link M → List (List (Link M))
set_link links v i link = slice_set links (v - 1) (slice_set (slice_index_or links (v - 1) []) i link)

abbrev pub set_link_to : {M : Type 0} → Net → List (List (Link M)) → ℕ → ℕ → Link M → List (List (Link M))
set_link_to net links v i link = set_link links (neighbour_of net v i) (back_port_of net v i) link

-- a link out of each vertex by each port, on which nothing was put
abbrev pub empty_links : {M : Type 0} → Net → List (List (Link M))
empty_links net = map (λ v. replicate (degree_of net v) no_link) (vertices net)

-- The start: each node is at pulse 0 with its first wires in its out-lists, and nothing was put on any link.
abbrev pub start : {S M E : Type 0} → Program S M E → Net → State S M
start program net = record {
  nodes = map (λ v. start_node program net v) (vertices net);
  links = empty_links net;
}

-- the same nodes, each with the last pulse, at some vertices
abbrev pub started_nodes : {S M E : Type 0} → Program S M E → Net → List ℕ → List (Alpha S M)
started_nodes program net vs = map (λ v. record { last = last_pulse_on program net; node = start_node program net v })
    vs

-- the state of nodes that each know the last pulse
abbrev pub state_in : {S M : Type 0} → List (Alpha S M) → List (List (Link M)) → State S M
state_in nodes links = record { nodes = map (λ n. n.node) nodes; links = links }

-- What contracts see of a `NetState`: its network, and the state.
pub record NetView (S M : Type 0) : Type 0 where
  pub net : Net
  pub state : State S M
