-- Where a node stood after each of its events.
use Rattle.std.specs.Prelude.{◌≡◌, ℕ, List, ◌++◌}
use Rattle.interference.specs.Net.{Net, IsVertex, neighbour_of}
use Rattle.node_api.specs.Program.{Program}
use Rattle.wires.specs.declared.wire.Wire.{Wire}
use Rattle.alpha_core.specs.View.{Node}
use Rattle.alpha_core.specs.Program.{start_node}
use Rattle.alpha_laws.specs.Stands.{Stands}
use Rattle.entries.specs.declared.entry.Entry.{Entry}
use Rattle.wired_nodes.specs.Written.{IsWritten, Leads, puts_in, takes_in}

-- The first entries lead a node of v from its start to a node that stands, with the lists that they put and took, by
-- port. The entries after them lead on from there.
pub record StoodAfter {S M E : Type 0} (program : Program S M E) (net : Net) (v : ℕ) (first after : List (Entry M))
    (last : Node S M) : Type 0 where
  pub node : Node S M
  pub led : Leads program net v first (start_node program net v) node
  pub goes_on : Leads program net v after node last
  pub stood : Stands program net v node
      (λ i. puts_in first (neighbour_of net v i)) (λ i. takes_in first (neighbour_of net v i))

-- If a node stands and some entries, its own or others, lead from its start to what it is, it stood after each prefix
-- of them, too.
abbrev pub PrefixesStand : {S M E : Type 0} → Program S M E → Net → Type 0
PrefixesStand {S} {M} program net =
    (v : ℕ) (node : Node S M) (puts takens : ℕ → List (Wire M)) (entries first after : List (Entry M))
    → IsVertex net v → Stands program net v node puts takens → IsWritten program net v node puts takens entries
    → entries ≡ first ++ after → StoodAfter program net v first after node
