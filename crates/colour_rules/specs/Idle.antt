-- Pulses in which a node does nothing unless something comes.
use Rattle.std.specs.Prelude.{◌≡◌, ℕ, ◌<◌, ◌≤◌, Ok, false, List, [], Option}
use Rattle.node_api.specs.Boxes.{Mail, Reads, nothing}
use Rattle.node_api.specs.Program.{span}
use Rattle.colour_rules.specs.declared.idle.IdlePulses.{IdlePulses}
use Rattle.colour_rules.specs.declared.phase.Phase.TheVariants.{Merge}
use Rattle.colour_rules.specs.Node.{Node, phase_of, ports}
use Rattle.colour_rules.specs.Choice.{chooses}
use Rattle.colour_rules.specs.Refusals.{Looked}
use Rattle.colour_rules.specs.declared.payload.Payload.{Payload}
use Rattle.colour_rules.specs.declared.payload.Payload.TheVariants.{Chosen}
use Rattle.colour_rules.specs.Program.{next}

-- at every pulse in [from, to), an empty inbox leaves the node unchanged and nothing is sent
abbrev pub IsIdle : Node → IdlePulses → Type 0
IsIdle node idle =
    (p : ℕ) → idle.from ≤ p → p < idle.to → next node p (nothing (ports node)) ≡ Ok (node, nothing (ports node))

-- Every pulse in [from, to) is a step of the merging of the forest after its first, and it isn't the node's turn.
pub record IsWaiting (node : Node) (idle : IdlePulses) : Type 0 where
  pub steps : (p : ℕ) → idle.from ≤ p → p < idle.to
      → (s : ℕ) × (0 < s) × (phase_of node.sizes p ≡ Merge idle.forest s) × (chooses node idle.forest s ≡ false)

-- at no step of forest f after its first, what came to the ports before this one breaks a rule
abbrev pub IsPassed : Node → ℕ → List (Option Payload) → ℕ → Type 0
IsPassed node f slots port = (s : ℕ) → 0 < s → Looked node (Merge f s) slots port []

-- Reading on from old gives a colour which may come at every step of forest f after its first.
pub record IsTaken (node : Node) (f : ℕ) (old : Mail Payload) (c : ℕ) (new : Mail Payload) : Type 0 where
  pub reads : Reads old (Chosen c) new
  pub low : c ≤ span node.sizes
  pub passed : IsPassed node f old.slots new.cursor

-- no pulse at all
abbrev pub no_pulses : IdlePulses
no_pulses = record { from = 0; to = 0; forest = 0 }
