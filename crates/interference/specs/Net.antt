-- The network: numbered vertices with identifiers, each with its neighbours and its barred colours, ascending.
use Rattle.std.specs.Prelude.{◌≡◌, ◌≢◌, ℕ, zero, suc, ◌+◌, ◌-◌, ◌^◌, ◌<◌, ◌≤◌, ◌==◌, nat_lt, max, if◌then◌else◌}
use Rattle.std.specs.Prelude.{List, [], ◌∷◌, length, slice_index, slice_index_or, count_by, Contains}
use Rattle.std.specs.List.{range_with_len}
use Rattle.graph_limits.specs.declared.limits.TheConstants.{IDENTIFIER_DIGITS, MAX_NODES, MAX_CHANNEL, MAX_BARS}
use Rattle.interference.specs.declared.limits.TheConstants.{MAX_DEGREE}

-- The value of a network. Entry `v - 1` of each list is of vertex v.
pub record Net : Type 0 where
  pub ids : List ℕ
  pub ports : List (List ℕ)
  pub bars : List (List ℕ)
  -- how many times more a program that repeats itself does so: only how long a run is depends on it
  pub again : ℕ

-- the same network, with this number
abbrev pub repeated : ℕ → Net → Net
repeated again net = record net { again = again }

-- how many nodes there are
abbrev pub count_of : Net → ℕ
count_of net = length net.ids

-- the vertices are 1 to the number of nodes
abbrev pub IsVertex : Net → ℕ → Type 0
IsVertex net v = (1 ≤ v) × (v ≤ count_of net)

abbrev pub vertices : Net → List ℕ
vertices net = range_with_len 1 (count_of net)

abbrev pub id_of : Net → ℕ → ℕ
id_of net v = slice_index net.ids (v - 1)

-- the neighbours of a vertex, by port
abbrev pub neighbours : Net → ℕ → List ℕ
neighbours net v = slice_index_or net.ports (v - 1) []

-- v is a vertex, and w a neighbour of it
abbrev pub IsEdge : Net → ℕ → ℕ → Type 0
IsEdge net v w = IsVertex net v × Contains (neighbours net v) w

abbrev pub degree_of : Net → ℕ → ℕ
degree_of net v = length (neighbours net v)

abbrev pub neighbour_of : Net → ℕ → ℕ → ℕ
neighbour_of net v port = slice_index (neighbours net v) port

-- the place of a number in a list, or the list's length
abbrev pub place_of : ℕ → List ℕ → ℕ
place_of x [] = 0
place_of x (y ∷ ys) = if x == y then 0 else place_of x ys + 1

-- the port of w that leads to v
abbrev pub port_to : Net → ℕ → ℕ → ℕ
port_to net w v = place_of v (neighbours net w)

-- the port of a neighbour that leads back
abbrev pub back_port_of : Net → ℕ → ℕ → ℕ
back_port_of net v port = port_to net (neighbour_of net v port) v

-- the length of the longest list
abbrev pub longest : List (List ℕ) → ℕ
longest [] = 0
longest (xs ∷ rest) = max (length xs) (longest rest)

-- Δ: the greatest degree of any node, 0 for no nodes
abbrev pub greatest_degree_of : Net → ℕ
greatest_degree_of net = longest net.ports

-- the colours that are barred at a vertex, ascending; a colour is its channel less one
abbrev pub bars_of : Net → ℕ → List ℕ
bars_of net v = slice_index_or net.bars (v - 1) []

-- a colour is barred at a vertex
abbrev pub IsBarred : Net → ℕ → ℕ → Type 0
IsBarred net v colour = Contains (bars_of net v) colour

-- how many colours are barred at a vertex
abbrev pub bar_count_of : Net → ℕ → ℕ
bar_count_of net v = length (bars_of net v)

-- B: the greatest number of bars of any node, 0 for no nodes
abbrev pub greatest_bars_of : Net → ℕ
greatest_bars_of net = longest net.bars

-- Δ and B together: each vertex has a colour of 0 to this that is neither a neighbour's nor barred
abbrev pub span_of : Net → ℕ
span_of net = greatest_degree_of net + greatest_bars_of net

-- how many neighbours of higher identifier a vertex has
abbrev pub higher_count : Net → ℕ → ℕ
higher_count net v = count_by (λ w. nat_lt (id_of net v) (id_of net w)) (neighbours net v)

-- the greatest value of f at v, v + 1, .., n of them
abbrev pub greatest_from : (ℕ → ℕ) → ℕ → ℕ → ℕ
greatest_from f v zero = 0
greatest_from f v (suc n) = max (f v) (greatest_from f (v + 1) n)

-- U: the greatest number of higher neighbours of any node, 0 for no nodes
abbrev pub forest_count_of : Net → ℕ
forest_count_of net = greatest_from (higher_count net) 1 (count_of net)

-- every identifier is below this
abbrev pub id_bound : ℕ
id_bound = 2 ^ IDENTIFIER_DIGITS

-- What every network keeps.
pub record IsNetwork (net : Net) : Type 0 where
  pub sizes : length net.ports ≡ length net.ids
  pub count : length net.ids ≤ MAX_NODES
  pub identifiers : (v : ℕ) → IsVertex net v → id_of net v < id_bound
  pub distinct : (v w : ℕ) → IsVertex net v → IsVertex net w → id_of net v ≡ id_of net w → v ≡ w
  pub degrees : (v : ℕ) → IsVertex net v → degree_of net v ≤ MAX_DEGREE
  pub vertices : (v port : ℕ) → IsVertex net v → port < degree_of net v → IsVertex net (neighbour_of net v port)
  pub ascending : (v i j : ℕ) → IsVertex net v → i < j → j < degree_of net v →
      neighbour_of net v i < neighbour_of net v j
  pub other : (v port : ℕ) → IsVertex net v → port < degree_of net v → neighbour_of net v port ≢ v
  pub symmetric : (v port : ℕ) → IsVertex net v → port < degree_of net v →
      back_port_of net v port < degree_of net (neighbour_of net v port)
  pub bar_lists : length net.bars ≡ length net.ids
  pub few_bars : (v : ℕ) → IsVertex net v → bar_count_of net v ≤ MAX_BARS
  pub barred_colours : (v colour : ℕ) → IsVertex net v → IsBarred net v colour → colour < MAX_CHANNEL
  pub ascending_bars : (v i j : ℕ) → IsVertex net v → i < j → j < bar_count_of net v →
      slice_index (bars_of net v) i < slice_index (bars_of net v) j
