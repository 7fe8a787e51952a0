-- The laws: what each event of a node by itself does to what it keeps of its links, and what nodes that keep them are.
use Rattle.std.specs.Prelude.{◌≡◌, ℕ, ◌<◌, IsTrue, List, [], ◌∷◌, ◌++◌, Ok}
use Rattle.interference.specs.Net.{Net, IsNetwork, IsVertex, degree_of, neighbour_of}
use Rattle.node_api.specs.Program.{Program, last_pulse_on}
use Rattle.node_api.specs.Laws.{IsProgram}
use Rattle.wires.specs.declared.wire.Wire.{Wire}
use Rattle.alpha_core.specs.View.{View, Node, port_at, can_pulse}
use Rattle.alpha_core.specs.Alpha.{reaction, pulse, put_done}
use Rattle.alpha_core.specs.Program.{start_node}
use Rattle.link_rule.specs.Sent.{IsLegal}
use Rattle.alpha_laws.specs.Kept.{NodeKept, AllKept}
use Rattle.alpha_laws.specs.Simulates.{Simulates}

-- a claim on every network, for a program that keeps the laws of programs
abbrev pub OnEveryNetwork : {S M E : Type 0} → Program S M E → (Net → Type 0) → Type 0
OnEveryNetwork program claim = IsProgram program → (net : Net) → IsNetwork net → claim net

-- these lists by port are those, with one wire more at the end of that of port i
pub record OneMore {M : Type 0} (i : ℕ) (wire : Wire M) (old new : ℕ → List (Wire M)) : Type 0 where
  pub here : new i ≡ old i ++ (wire ∷ [])
  pub others : (j : ℕ) → (j ≡ i → ⊥) → old j ≡ new j

-- A node at its start keeps its links, on which nothing was put.
abbrev pub StartsKeep : {S M E : Type 0} → Program S M E → Net → Type 0
StartsKeep program net = (v : ℕ) → IsVertex net v →
    NodeKept program net v (start_node program net v) (λ i. []) (λ i. [])

-- It keeps them as it puts the oldest wire of an out-list,
abbrev pub PutsKeep : {S M E : Type 0} → Program S M E → Net → Type 0
PutsKeep {S} {M} program net =
    (v i : ℕ) (node : Node S M) (sent sent' taken : ℕ → List (Wire M)) (wire : Wire M) (rest : List (Wire M))
    → NodeKept program net v node sent taken → i < degree_of net v
    → (port_at node.view i).out ≡ wire ∷ rest → OneMore i wire sent sent'
    → NodeKept program net v record node { view = put_done node.view i } sent' taken

-- as it takes a wire that it doesn't refuse and with which the list that it took is legal,
abbrev pub TakesKeep : {S M E : Type 0} → Program S M E → Net → Type 0
TakesKeep {S} {M} program net =
    (v i : ℕ) (node : Node S M) (sent taken taken' : ℕ → List (Wire M)) (wire : Wire M) (view : View M)
    → NodeKept program net v node sent taken → i < degree_of net v
    → IsLegal program net (neighbour_of net v i) v (taken i ++ (wire ∷ []))
    → reaction (last_pulse_on program net) node.view i wire ≡ Ok view → OneMore i wire taken taken'
    → NodeKept program net v record node { view = view } sent taken'

-- and as it makes a pulse, which its program doesn't refuse.
abbrev pub PulsesKeep : {S M E : Type 0} → Program S M E → Net → Type 0
PulsesKeep {S} {M} program net =
    (v : ℕ) (node : Node S M) (sent taken : ℕ → List (Wire M))
    → NodeKept program net v node sent taken → IsVertex net v → IsTrue (can_pulse (last_pulse_on program net) node.view)
    → (next : Node S M) × (pulse program.next (last_pulse_on program net) node ≡ Ok next) ×
    NodeKept program net v next sent taken

-- Nodes that keep their links simulate the synchronous run.
abbrev pub KeptSimulate : {S M E : Type 0} → Program S M E → Net → Type 0
KeptSimulate {S} {M} program net =
    (nodes : ℕ → Node S M) (sent taken held : ℕ → ℕ → List (Wire M))
    → AllKept program net nodes sent taken held → Simulates program net nodes sent taken
