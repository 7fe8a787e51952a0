-- Where a node with its ends stands, and what it did.
use Rattle.std.specs.Prelude.{map}
use Rattle.std.specs.declared.cmp.PartialEq as eq
use Rattle.interference.specs.Net.{Net}
use Rattle.node_api.specs.declared.program.NodeProgram as program
use Rattle.node_api.specs.declared.payload.PayloadText as text
use Rattle.alpha_laws.specs.Stands.{Stands}
use Rattle.link_queue.specs.Ends.{put_list, put_stamped, taken_list, taken_stamped}
use Rattle.wired_nodes.specs.Did.{Did}
use Rattle.wired_nodes.specs.Node.{by_port, reacted_to}
use Rattle.wired_nodes.specs.declared.wiring.Wiring as wiring
use Rattle.wired_nodes.specs.declared.node.Node.{Node}

-- The lists of a node are those that its ends put and took; a wire that it set aside isn't among those taken.
module _ {J P T : Type 0} {j : wiring.Ghosts J} {p : program.Ghosts P T} {t : text.Ghosts T} {q : eq.Ghosts T} where
  -- The node stands where the synchronous run of its program on the network has it.
  abbrev pub NodeStands : Net → Node J P T j p t q → Type 0
  NodeStands net node = Stands p.program net node.vertex node.alpha.node
      (by_port (map (λ e. put_list e.end) node.puts.items))
      (by_port (reacted_to node.aside (map (λ e. taken_list e.end) node.takes.items)))

  -- Some entries, written down or not, are all that it did since its start.
  abbrev pub NodeDid : Net → Node J P T j p t q → Type 0
  NodeDid net node = ∥ Did p.program net node.vertex node.counter node.alpha.node
      (by_port (map (λ e. put_list e.end) node.puts.items))
      (by_port (reacted_to node.aside (map (λ e. taken_list e.end) node.takes.items)))
      (by_port (map (λ e. put_stamped e.end) node.puts.items))
      (by_port (map (λ e. taken_stamped e.end) node.takes.items)) ∥₁
