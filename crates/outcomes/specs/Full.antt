-- Whether a node was refused memory, and whether it has come to its greatest stamp.
use Rattle.std.specs.Prelude.{◌≢◌, ℕ, ◌+◌, ◌<◌, ◌^◌, max, Option, Some}
use Rattle.wired_nodes.specs.declared.refused.TurnRefused.{TurnRefused}
use Rattle.wired_nodes.specs.declared.refused.TurnRefused.TheVariants.{Memory}
use Rattle.wired_nodes.specs.declared.aside.Aside.{Aside}
use Rattle.wired_nodes.specs.HasStamps.{aside_stamp}

-- A node that remembers this refusal, or none, doesn't remember that memory was refused to a turn of it.
abbrev pub HadMemory : Option TurnRefused → Type 0
HadMemory refusal = refusal ≢ Some Memory

-- A node with this counter can give its next event a stamp, and could the take of a wire that it set aside.
abbrev pub HasStampLeft : {M : Type 0} → ℕ → Option (Aside M) → Type 0
HasStampLeft counter aside = max counter (aside_stamp aside) + 1 < 2 ^ 64
