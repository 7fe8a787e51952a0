-- The links of a run, as those speak of them who have them.
use Rattle.std.specs.Prelude.{ℕ, ◌≤◌, All}
use Rattle.link_queue.specs.Ends.{link_capacity}
use Rattle.wired_nodes.specs.declared.wiring.Wiring as wiring
use Rattle.wired_nodes.specs.declared.links.Links.{Links}

module _ {J P T : Type 0} {j : wiring.Ghosts J} where
  -- no link has room for more wires than this
  abbrev pub HoldAtMost : Links J P T j → ℕ → Type 0
  HoldAtMost links capacity = All (λ link. link_capacity link ≤ capacity) links.list.items
