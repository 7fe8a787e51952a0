-- Lists of neighbours and of barred colours, each packed into one list.
use Rattle.std.specs.Prelude.{◌≡◌, ℕ, ◌+◌, ◌-◌, ◌*◌, ◌<◌, ◌≤◌, List, [], ◌∷◌, length, slice_index, take, drop}
use Rattle.graph_limits.specs.declared.limits.TheConstants.{MAX_EDGES}
use Rattle.interference.specs.Net.{Net, IsNetwork, IsVertex, back_port_of, degree_of}
use Rattle.interference.specs.Net.{forest_count_of, greatest_bars_of, greatest_degree_of}

-- the parts of a list between one start and the next
abbrev pub rows : List ℕ → List ℕ → List (List ℕ)
rows [] xs = []
rows (a ∷ []) xs = []
rows (a ∷ b ∷ starts) xs = take (b - a) (drop a xs) ∷ rows (b ∷ starts) xs

abbrev pub net_from : List ℕ → List ℕ → List ℕ → List ℕ → List ℕ → ℕ → Net
net_from ids starts ports bar_starts bars again =
    record { ids = ids; ports = rows starts ports; bars = rows bar_starts bars; again = again }

-- so many starts and one more rise, from the first entry to the last one of the packed list
pub record AreRows (count : ℕ) (starts xs : List ℕ) : Type 0 where
  pub sizes : length starts ≡ count + 1
  pub rising : (i : ℕ) → i < count → slice_index starts i ≤ slice_index starts (i + 1)
  pub within : (i : ℕ) → i ≤ count → slice_index starts i ≤ length xs

-- packed lists of a network
pub record IsPacked (ids starts ports bar_starts bars : List ℕ) (again : ℕ) : Type 0 where
  pub neighbours : AreRows (length ids) starts ports
  pub limit : length ports ≤ 2 * MAX_EDGES
  pub barred : AreRows (length ids) bar_starts bars
  pub network : IsNetwork (net_from ids starts ports bar_starts bars again)

-- packed neighbours of a network, whatever is barred in it
abbrev pub ArePorts : List ℕ → List ℕ → List ℕ → Type 0
ArePorts ids starts ports =
    (bar_starts : List ℕ) × (bars : List ℕ) × IsPacked ids starts ports bar_starts bars 0

-- beside each neighbour stands the port that leads back
pub record HasBacks (starts backs : List ℕ) (net : Net) : Type 0 where
  pub size : (v port : ℕ) → IsVertex net v → port < degree_of net v → slice_index starts (v - 1) + port < length backs
  pub back : (v port : ℕ) → IsVertex net v → port < degree_of net v →
      slice_index backs (slice_index starts (v - 1) + port) ≡ back_port_of net v port

-- all that a network keeps: its packed lists, and its greatest degree, forest count and greatest number of bars
pub record IsStored (ids starts ports backs bar_starts bars : List ℕ) (again degree forests most : ℕ) : Type 0 where
  pub packed : IsPacked ids starts ports bar_starts bars again
  pub backs_lead : HasBacks starts backs (net_from ids starts ports bar_starts bars again)
  pub degree_is : degree ≡ greatest_degree_of (net_from ids starts ports bar_starts bars again)
  pub forests_are : forests ≡ forest_count_of (net_from ids starts ports bar_starts bars again)
  pub most_is : most ≡ greatest_bars_of (net_from ids starts ports bar_starts bars again)
