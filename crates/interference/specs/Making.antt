-- The network that identifiers, a set of edges and a set of bars make, and what is refused.
use Rattle.std.specs.Prelude.{◌≡◌, ◌⊎◌, ℕ, ◌-◌, ◌<◌, ◌≤◌, Bool, List, length, map, filter, min, max, All, Some}
use Rattle.std.specs.List.{range_with_len}
use Rattle.std.specs.Set.{is_member}
use Rattle.std.specs.List.Sorted.{IsStrictlySortedBy}
use Rattle.graph_limits.specs.Pairs.{IsWithinLimits, IsBarOf, pair_cmp, same_pair, is_bar_at, bars_at}
use Rattle.graph_limits.specs.declared.limits.TheConstants.{MAX_BARS}
use Rattle.interference.specs.Net.{Net, IsVertex, id_of, degree_of}
use Rattle.interference.specs.declared.limits.TheConstants.{MAX_DEGREE}
use Rattle.interference.specs.declared.fault.NetFault.{NetFault}
use Rattle.interference.specs.declared.fault.TryFault.{TryFault}
use Rattle.interference.specs.declared.fault.NetFault.TheVariants.{Degree, SameId, Memory}
use Rattle.interference.specs.declared.fault.TryFault.TheVariants.{Edges, Bars, Refused}

-- edges that a network takes: within the limits, ascending, none twice
pub record EdgesFit (nodes : ℕ) (edges : List (ℕ × ℕ)) : Type 0 where
  pub limits : IsWithinLimits nodes edges
  pub ascending : IsStrictlySortedBy pair_cmp edges

-- bars that a network takes, each a vertex and a channel: within the limits, ascending, none twice
pub record BarsFit (nodes : ℕ) (bars : List (ℕ × ℕ)) : Type 0 where
  pub bars_fit : All (IsBarOf (Some nodes)) bars
  pub few : (v : ℕ) → bars_at bars v ≤ MAX_BARS
  pub ascending : IsStrictlySortedBy pair_cmp bars

-- whether a set of edges, each with its smaller vertex first, joins two vertices
abbrev pub joins : List (ℕ × ℕ) → ℕ → ℕ → Bool
joins edges v w = is_member same_pair edges (min v w, max v w)

-- the vertices among 1 to n that are joined to v, ascending
abbrev pub joined_to : ℕ → List (ℕ × ℕ) → ℕ → List ℕ
joined_to n edges v = filter (joins edges v) (range_with_len 1 n)

-- the colour of a bar: its channel less one
abbrev pub colour_of : ℕ × ℕ → ℕ
colour_of bar = bar.1 - 1

-- the colours that a set of bars bars at v, in the order of the set
abbrev pub barred_at : List (ℕ × ℕ) → ℕ → List ℕ
barred_at bars v = map colour_of (filter (is_bar_at v) bars)

-- the network of a list of identifiers, a set of edges and a set of bars
unfoldable pub network_of : List ℕ → List (ℕ × ℕ) → List (ℕ × ℕ) → Net
network_of ids edges bars = record {
  ids = ids;
  ports = map (joined_to (length ids) edges) (range_with_len 1 (length ids));
  bars = map (barred_at bars) (range_with_len 1 (length ids));
  again = 0;
}

-- a vertex has more neighbours than a node may have
abbrev pub IsCrowded : Net → ℕ → Type 0
IsCrowded net v = IsVertex net v × (MAX_DEGREE < degree_of net v)

-- two different vertices, the smaller first, have one identifier
abbrev pub HaveSameId : Net → ℕ → ℕ → Type 0
HaveSameId net v w = IsVertex net v × IsVertex net w × (v < w) × (id_of net v ≡ id_of net w)

-- why a network is refused: the least crowded vertex; else the first pair (v, w) with one identifier
abbrev pub IsFaultOf : Net → NetFault → Type 0
IsFaultOf net (Degree v) = IsCrowded net v × ((u : ℕ) → IsCrowded net u → v ≤ u)
IsFaultOf net (SameId v w) = ((u : ℕ) → IsCrowded net u → ⊥) × HaveSameId net v w
    × ((t u : ℕ) → HaveSameId net t u → (v < t) ⊎ ((v ≡ t) × (w ≤ u)))
IsFaultOf net Memory = Unit {0}

-- what a checked making reports: edges or bars that a network doesn't take, or why theirs is refused
abbrev pub IsTryFaultOf : List ℕ → List (ℕ × ℕ) → List (ℕ × ℕ) → TryFault → Type 0
IsTryFaultOf ids edges bars Edges = EdgesFit (length ids) edges → ⊥
IsTryFaultOf ids edges bars Bars = EdgesFit (length ids) edges × (BarsFit (length ids) bars → ⊥)
IsTryFaultOf ids edges bars (Refused fault) =
    EdgesFit (length ids) edges × BarsFit (length ids) bars × IsFaultOf (network_of ids edges bars) fault
