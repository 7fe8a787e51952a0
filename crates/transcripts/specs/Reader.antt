-- What a reader of a transcript refuses.
use Rattle.std.specs.Prelude.{◌≡◌, ℕ}
use Rattle.transcripts.specs.declared.fault.TextFault.{TextFault}
use Rattle.transcripts.specs.declared.fault.TextFault.TheVariants.{Syntax, Memory}

-- the line is wrong where it stands, or memory ran out
abbrev pub IsSyntaxFault : Type 0 → ℕ → TextFault → Type 0
IsSyntaxFault wrong line Memory = Unit {0}
IsSyntaxFault wrong line (Syntax n) = wrong × (n ≡ line)
