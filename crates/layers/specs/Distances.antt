-- What the layer of a node says: its distance from the root, and a port that leads closer.
use Rattle.std.specs.Prelude.{◌≡◌, ◌↔◌, ℕ, zero, suc, ◌<◌, Option, Some, None}
use Rattle.interference.specs.Net.{Net, IsVertex, id_of, degree_of, neighbour_of}
use Rattle.distances.specs.Distance.{IsDistance, IsReached}
use Rattle.layers.specs.declared.layer.Layer.{Layer}
use Rattle.layers.specs.declared.layer.Layer.TheVariants.{Unreached, Root, Away}
use Rattle.layers.specs.declared.layer.TheConstants.{ROOT_ID}

-- the root is the vertex of identifier 1, if there is one
abbrev pub IsRoot : Net → ℕ → Type 0
IsRoot net w = IsVertex net w × (id_of net w ≡ ROOT_ID)

-- the distance that a layer says
abbrev pub hops_of : Layer → Option ℕ
hops_of Unreached = None
hops_of Root = Some 0
hops_of (Away hops port) = Some hops

-- A node's number is its distance from the root, its port leads one link closer, and it is unreached exactly if no way
-- leads to the root.
pub record IsLayer (net : Net) (v : ℕ) (layer : Layer) : Type 0 where
  pub distance : (hops : ℕ) → hops_of layer ≡ Some hops → (root : ℕ) × IsRoot net root × IsDistance net v root hops
  pub closer : (hops port : ℕ) → layer ≡ Away hops port → (root d : ℕ) × IsRoot net root × (hops ≡ suc d)
      × (port < degree_of net v) × IsDistance net (neighbour_of net v port) root d
  pub unreached : (layer ≡ Unreached) ↔ ((root : ℕ) → IsRoot net root → IsReached net v root → ⊥)

-- The same with the root given: a node's number is its distance from this vertex, its port leads one link closer to it,
-- and it is unreached exactly if no way leads there.
pub record IsLayerFrom (net : Net) (root v : ℕ) (layer : Layer) : Type 0 where
  pub distance : (hops : ℕ) → hops_of layer ≡ Some hops → IsDistance net v root hops
  pub closer : (hops port : ℕ) → layer ≡ Away hops port → (d : ℕ) × (hops ≡ suc d) × (port < degree_of net v)
      × IsDistance net (neighbour_of net v port) root d
  pub unreached : (layer ≡ Unreached) ↔ (IsReached net v root → ⊥)

-- the vertex to which the port of a layer leads from v; a node without one stays
abbrev pub towards : Net → Layer → ℕ → ℕ
towards net Unreached v = v
towards net Root v = v
towards net (Away hops port) v = neighbour_of net v port

-- the vertex to which so many ports lead from v, each of the node that it comes to
abbrev pub followed : Net → (ℕ → Layer) → ℕ → ℕ → ℕ
followed net layers zero v = v
followed net layers (suc k) v = followed net layers k (towards net (layers v) v)

-- the ports are a tree: from every node that is reached, as many ports as its distance lead to the root
abbrev pub LeadToTheRoot : Net → (ℕ → Layer) → Type 0
LeadToTheRoot net layers =
    (v hops : ℕ) → IsVertex net v → hops_of (layers v) ≡ Some hops → IsRoot net (followed net layers hops v)
