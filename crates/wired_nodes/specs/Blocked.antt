-- A node before and after a turn in which it did nothing, and why no wire of it is put and it takes none.
use Rattle.std.specs.Prelude.{◌≡◌, ◌⊎◌, ℕ, IsTrue, None, map, slice_get}
use Rattle.std.specs.declared.cmp.PartialEq as equality
use Rattle.alpha_core.specs.View.{can_take, port_at}
use Rattle.node_api.specs.declared.program.NodeProgram as program
use Rattle.node_api.specs.declared.payload.PayloadText as text
use Rattle.link_queue.specs.Ends.{put_list, taken_list}
use Rattle.entries.specs.Recorded.{HasRoom, entries_by}
use Rattle.wired_nodes.specs.Node.{by_port}
use Rattle.wired_nodes.specs.Tables.{LinkWasFull}
use Rattle.wired_nodes.specs.declared.wiring.Wiring as wiring
use Rattle.wired_nodes.specs.declared.node.Node.{Node}

module _ {J P T : Type 0} {j : wiring.Ghosts J} {p : program.Ghosts P T} {t : text.Ghosts T}
    {q : equality.Ghosts T} where
  -- It is as it was: its pulse, state and ports, what it set aside, what its ends put and took, what it wrote down, and
  -- its counter. Room for an entry is kept.
  pub record IsUnmoved (old new : Node J P T j p t q) : Type 0 where
    pub alpha : new.alpha ≡ old.alpha
    pub aside : new.aside ≡ old.aside
    pub puts : map (λ e. put_list e.end) new.puts.items ≡ map (λ e. put_list e.end) old.puts.items
    pub takes : map (λ e. taken_list e.end) new.takes.items ≡ map (λ e. taken_list e.end) old.takes.items
    pub entries : entries_by new.recorder ≡ entries_by old.recorder
    pub counter : new.counter ≡ old.counter
    pub room : HasRoom old.recorder → HasRoom new.recorder

  -- Why no wire is put by a port: none waits in its out-list, or its link was full at a moment of the call.
  abbrev pub PutBlocked : ℕ → Node J P T j p t q → Type 0
  PutBlocked port node =
      (slice_get (port_at node.alpha.node.view port).out 0 ≡ None)
      ⊎ LinkWasFull P j.tables node.vertex port (by_port (map (λ e. put_list e.end) node.puts.items) port)

  -- It isn't for refused memory that it takes no wire: if it can take, it has room for the entry of one.
  abbrev pub HasTakeRoom : Node J P T j p t q → Type 0
  HasTakeRoom node = IsTrue (can_take node.alpha.node.view) → HasRoom node.recorder

  -- Nor that it puts none by a port: none waits in its out-list, or it has room for the entry of one.
  abbrev pub HasPutRoom : ℕ → Node J P T j p t q → Type 0
  HasPutRoom port node = (slice_get (port_at node.alpha.node.view port).out 0 ≡ None) ⊎ HasRoom node.recorder
