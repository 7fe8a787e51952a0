-- The links that are made, with their ends.
use Rattle.std.specs.Prelude.{◌≡◌, ◌⊎◌, ◌↔◌, ◌<◌, ◌≤◌, ◌+◌, ◌*◌, ◌-◌, ℕ, List, ◌++◌, ◌∷◌, [], All, length, map, Some}
use Rattle.std.specs.Prelude.{slice_get, slice_set}
use Rattle.atomic_table.specs.Seated.{TableId}
use Rattle.interference.specs.Net.{Net, IsNetwork, IsVertex, back_port_of, count_of, degree_of, neighbour_of}
use Rattle.interference.specs.declared.limits.TheConstants.{MAX_DEGREE}
use Rattle.link_rule.specs.Legal.{name_of}
use Rattle.link_queue.specs.declared.link.Link.{Link}
use Rattle.link_queue.specs.Ends.{IsNewPutEnd, IsNewTakeEnd, link_capacity}
use Rattle.port_rows.specs.Rows.{HasShape, row_at, thing_at}
use Rattle.node_runs.specs.declared.making.PortEnds.{PortEnds}

-- rows with one thing more in the row of v
abbrev pub row_more : {A : Type 0} → List (List A) → ℕ → A → List (List A)
row_more rows v x = slice_set rows (v - 1) (row_at rows v ++ x ∷ [])

-- the queues of the links out of each vertex, by port
abbrev pub tables_of : {P T : Type 0} → List (List (PortEnds P T)) → List (List TableId)
tables_of rows = map (λ row. map (λ ends. ends.put.pass.table_id) row) rows

-- port j of vertex w comes before port i of vertex v
abbrev pub IsBefore : ℕ → ℕ → ℕ → ℕ → Type 0
IsBefore w j v i = (w < v) ⊎ ((w ≡ v) × (j < i))

-- the edge at port p of vertex u has an end before port i of vertex v
abbrev pub HasEndBefore : Net → ℕ → ℕ → ℕ → ℕ → Type 0
HasEndBefore net u p v i = IsBefore u p v i ⊎ IsBefore (neighbour_of net u p) (back_port_of net u p) v i

module _ {P T : Type 0} (net : Net) (capacity : ℕ) where
  -- New ends at port i of v: one that puts on the link out by the port, and one that takes from the link that comes in
  -- there. Both links are in this list, at the index beside the end.
  pub record AreEndsAt (links : List (Link P T)) (v i : ℕ) (ends : PortEnds P T) : Type 0 where
    pub out : (link : Link P T) × ((slice_get links ends.put_index ≡ Some link)
        × IsNewPutEnd link ends.put (name_of net v i))
    pub back : (link : Link P T) × ((slice_get links ends.take_index ≡ Some link)
        × IsNewTakeEnd link ends.take (name_of net (neighbour_of net v i) (back_port_of net v i)))

  -- Links of this capacity, and the ends made until now, in rows by vertex: the end that takes is of the link on which
  -- the neighbour puts.
  pub record AreEnds (links : List (Link P T)) (rows : List (List (PortEnds P T))) : Type 0 where
    pub capacities : All (λ link. link_capacity link ≡ capacity) links
    pub each : (v i : ℕ) (ends : PortEnds P T) → IsVertex net v → thing_at rows v i ≡ Some ends
        → AreEndsAt links v i ends
    pub joined : (v i : ℕ) (ends other : PortEnds P T) → IsVertex net v → i < degree_of net v
        → thing_at rows v i ≡ Some ends
        → thing_at rows (neighbour_of net v i) (back_port_of net v i) ≡ Some other → ends.take_index ≡ other.put_index

  -- The links of all edges that have an end before port i of v, with their ends: each row has those of its first ports
  -- (`there`). `few` keeps the indices below 2^32.
  pub record AreMadeBefore (v i : ℕ) (links : List (Link P T)) (rows : List (List (PortEnds P T))) : Type 0 where
    pub ends : AreEnds links rows
    pub count : length rows ≡ count_of net
    pub few : length links ≤ 2 * (MAX_DEGREE * v + i)
    pub shorter : (u : ℕ) → IsVertex net u → length (row_at rows u) ≤ degree_of net u
    pub there : (u p : ℕ) → IsVertex net u → p < degree_of net u
        → (p < length (row_at rows u)) ↔ HasEndBefore net u p v i

  -- The links of all edges of a network, with two new ends for each port.
  pub record AreMade (links : List (Link P T)) (rows : List (List (PortEnds P T))) : Type 0 where
    pub network : IsNetwork net
    pub shape : HasShape net rows
    pub ends : AreEnds links rows
