-- What a node has left if it remembers that a turn was refused a stamp.
use Rattle.std.specs.Prelude.{◌≡◌, ℕ, ◌+◌, ◌≤◌, ◌^◌, max, Option, Some}
use Rattle.wired_nodes.specs.declared.aside.Aside.{Aside}
use Rattle.wired_nodes.specs.declared.refused.TurnRefused.{TurnRefused}
use Rattle.wired_nodes.specs.declared.refused.TurnRefused.TheVariants.{StampFull}
use Rattle.wired_nodes.specs.HasStamps.{aside_stamp}

-- A node that remembers a stamp that would be too great has come to the greatest: by its counter, or by the wire that
-- it set aside.
abbrev pub RemembersFull : {M : Type 0} → Option TurnRefused → ℕ → Option (Aside M) → Type 0
RemembersFull refusal counter aside = refusal ≡ Some StampFull → 2 ^ 64 ≤ max counter (aside_stamp aside) + 1
