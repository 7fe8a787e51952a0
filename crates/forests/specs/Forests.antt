-- The forests of a network (Panconesi and Rizzi): in forest f the parent of a vertex is its neighbour
-- number f of higher identifier, counted from 0 by ascending identifier.
use Rattle.std.specs.Prelude.{◌≡◌, ◌⊎◌, ◌<◌, ◌&&◌, ℕ, List, Option, Some, None, if◌then◌else◌, nat_lt, filter, count_by}
use Rattle.std.specs.List.{slice_get, filter_map, flat_map, range_with_len}
use Rattle.std.specs.Option.{option_map}
use Rattle.interference.specs.Net.{Net, id_of, neighbours, vertices, place_of, forest_count_of}
use Rattle.forests.specs.Order.{in_order}
use Rattle.forests.specs.declared.numbering.Role.{Role}
use Rattle.forests.specs.declared.numbering.Role.TheVariants.{Unknown, Up, Down}

-- the neighbours of v that have a higher identifier, by port
abbrev pub higher : Net → ℕ → List ℕ
higher net v = filter (λ w. nat_lt (id_of net v) (id_of net w)) (neighbours net v)

-- the same by ascending identifier
unfoldable pub up : Net → ℕ → List ℕ
up net v = in_order (id_of net) (higher net v)

-- the parent of v in forest f, or none if v is a root there
abbrev pub parent : Net → ℕ → ℕ → Option ℕ
parent net f v = slice_get (up net v) f

-- the forest of the edge between v and w
abbrev pub number : Net → ℕ → ℕ → ℕ
number net v w = if nat_lt (id_of net v) (id_of net w) then place_of w (up net v) else place_of v (up net w)

-- the edge from v to its parent in forest f, as (forest, child, parent), if it has one
abbrev pub edge_up : Net → ℕ → ℕ → Option (ℕ × ℕ × ℕ)
edge_up net f v = option_map (λ w. (f, v, w)) (parent net f v)

-- the edges of forest f, ascending by child
abbrev pub forest_edges : Net → ℕ → List (ℕ × ℕ × ℕ)
forest_edges net f = filter_map (edge_up net f) (vertices net)

-- the edges of all forests, one forest after another
unfoldable pub triples : Net → List (ℕ × ℕ × ℕ)
triples net = flat_map (forest_edges net) (range_with_len 0 (forest_count_of net))

-- the forest of a port's edge, if it is known
abbrev pub forest : Role → Option ℕ
forest Unknown = None
forest (Up f) = Some f
forest (Down f) = Some f

-- what the node of identifier own, whose ports lead to ids, makes of its port to the identifier id
unfoldable pub role_by : ℕ → List ℕ → ℕ → Role
role_by own ids id = if nat_lt own id then Up (place_of id (in_order (λ i. i) (filter (nat_lt own) ids))) else Unknown

-- what the port from v to its neighbour w is once both ends know
unfoldable pub role_of : Net → ℕ → ℕ → Role
role_of net v w = if nat_lt (id_of net v) (id_of net w) then Up (number net v w) else Down (number net v w)

-- how many neighbours of v have an identifier between those of v and w
abbrev pub rank : Net → ℕ → ℕ → ℕ
rank net v w =
    count_by (λ u. nat_lt (id_of net v) (id_of net u) && nat_lt (id_of net u) (id_of net w)) (neighbours net v)

-- an edge comes before another by forest, and in one forest by child
abbrev pub IsBefore : ℕ × ℕ × ℕ → ℕ × ℕ × ℕ → Type 0
IsBefore a b = (a.0 < b.0) ⊎ ((a.0 ≡ b.0) × (a.1 < b.1))
