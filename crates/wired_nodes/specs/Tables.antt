-- Which link of a run an end is of.
use Rattle.std.specs.Prelude.{◌≡◌, ℕ, ◌-◌, ◌≤◌, List, [], Option, Some, slice_get, slice_index_or}
use Rattle.atomic_table.specs.Seated.{TableId}
use Rattle.interference.specs.Net.{Net}
use Rattle.link_rule.specs.declared.name.LinkName.{LinkName}
use Rattle.link_rule.specs.Legal.{name_of}
use Rattle.wires.specs.declared.wire.Wire.{Wire}
use Rattle.link_queue.specs.declared.link.Link.{Link}
use Rattle.link_queue.specs.Ends.{WasFull}

-- the queue that a link is
abbrev pub table_of : {P T : Type 0} → Link P T → TableId
table_of link = link.queue.table.shared.table_id

-- The queue of the link out of vertex v by port i: entry `v - 1` of the rows has the links out of v, by port.
abbrev pub table_at : List (List TableId) → ℕ → ℕ → Option TableId
table_at tables v i = slice_get (slice_index_or tables (v - 1) []) i

-- An end, of that queue and that name, is of the link out of vertex v by port i.
pub record IsEndAt (net : Net) (tables : List (List TableId)) (v i : ℕ) (table : TableId) (name : Option LinkName)
    : Type 0 where
  pub vertex : 1 ≤ v
  pub queue : table_at tables v i ≡ Some table
  pub named : name ≡ Some (name_of net v i)

-- What an end, that has put these wires, knows of a moment at which its link was full: `WasFull` of link_queue.
abbrev pub LinkWasFull : {T : Type 0} → Type 0 → List (List TableId) → ℕ → ℕ → List (Wire T) → Type 0
LinkWasFull {T} P tables v i put = (link : Link P T) × (table_at tables v i ≡ Some (table_of link)) × WasFull link put
