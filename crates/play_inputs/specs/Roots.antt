-- The network in which a vertex of one's choice is the root.
use Rattle.std.specs.Prelude.{◌-◌, ℕ, List, if◌then◌else◌, map, nat_eq, slice_index}
use Rattle.interference.specs.Net.{Net}
use Rattle.play_inputs.specs.declared.setting.Root.{Root}

-- two identifiers change places, and any other one stays
abbrev pub exchanged_id : ℕ → ℕ → ℕ → ℕ
exchanged_id a b id = if nat_eq id a then b else if nat_eq id b then a else id

-- the vertex has the identifier of the root, and the vertex that had this, if there is one, has the other's
abbrev pub rooted_ids : Root → List ℕ → List ℕ
rooted_ids root ids = map (exchanged_id root.id (slice_index ids (root.vertex - 1))) ids

-- a network with these identifiers: its vertices, its ports and its bars are the same
abbrev pub rooted : Root → Net → Net
rooted root net = record net { ids = rooted_ids root net.ids }
