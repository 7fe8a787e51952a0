-- What a reader of a plan text knows, and what it refuses.
use Rattle.std.specs.Prelude.{◌≡◌, ℕ, Option, List, option_map}
use Rattle.channel_plan.specs.Reading.{Row}
use Rattle.channel_plan.specs.declared.plan.CheckFault.{CheckFault}
use Rattle.channel_plan.specs.declared.plan.CheckFault.TheVariants.{Syntax, Memory}
use Rattle.channel_plan.specs.declared.reading.Reader.{Reader}

-- the rows so far, once the line `plan` came
abbrev pub known : Reader → Option (List Row)
known reader = option_map (λ rows. rows.items) reader.rows

-- the line is wrong where it stands, or memory ran out
abbrev pub IsSyntaxFault : Type 0 → ℕ → CheckFault → Type 0
IsSyntaxFault wrong line Memory = Unit {0}
IsSyntaxFault wrong line (Syntax n) = wrong × (n ≡ line)
IsSyntaxFault wrong line _ = ⊥
