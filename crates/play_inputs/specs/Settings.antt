-- The network that nodes see, as a command sets it.
use Rattle.std.specs.Prelude.{◌≡◌, ◌≤◌, ℕ, List}
use Rattle.interference.specs.Net.{Net, IsVertex, repeated}
use Rattle.play_inputs.specs.Roots.{rooted, rooted_ids}
use Rattle.play_inputs.specs.declared.setting.Setting.{Setting}
use Rattle.play_inputs.specs.declared.setting.Setting.TheVariants.{AsRead, Repeating, Rooted}

-- something holds of a network as it is set; a root that is set is a vertex of the network
abbrev pub OfSet : Setting → (Net → Type 0) → Net → Type 0
OfSet AsRead holds net = holds net
OfSet (Rooted root) holds net = IsVertex net root.vertex × holds (rooted root net)
OfSet (Repeating again) holds net = holds (repeated again net)

-- the identifiers as they are set
abbrev pub set_ids : Setting → List ℕ → List ℕ
set_ids AsRead ids = ids
set_ids (Rooted root) ids = rooted_ids root ids
set_ids (Repeating again) ids = ids

-- how often a program repeats itself, as it is set
abbrev pub repeated_as : Setting → Net → Net
repeated_as AsRead net = net
repeated_as (Rooted root) net = net
repeated_as (Repeating again) net = repeated again net

-- a root that is set is one of so many vertices
abbrev pub IsRootAmong : Setting → ℕ → Type 0
IsRootAmong AsRead nodes = Unit {0}
IsRootAmong (Rooted root) nodes = (1 ≤ root.vertex) × (root.vertex ≤ nodes)
IsRootAmong (Repeating again) nodes = Unit {0}

-- a root is set, and is no vertex of the network
abbrev pub LacksRoot : Setting → ℕ → Net → Type 0
LacksRoot AsRead v net = ⊥
LacksRoot (Rooted root) v net = (v ≡ root.vertex) × (IsVertex net v → ⊥)
LacksRoot (Repeating again) v net = ⊥
