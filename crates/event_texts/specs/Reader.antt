-- What the reader of events refuses.
use Rattle.std.specs.Prelude.{◌≡◌, ℕ, Err, List}
use Rattle.dimacs_col.specs.Lines.{Line}
use Rattle.event_texts.specs.Reading.{script_of}
use Rattle.event_texts.specs.declared.fault.EventFault.{EventFault}
use Rattle.event_texts.specs.declared.fault.EventFault.TheVariants.{NoEvent, Memory}

-- the line is wrong, and this is its number; or memory ran out
abbrev pub IsLineFault : Type 0 → ℕ → EventFault → Type 0
IsLineFault wrong line Memory = Unit {0}
IsLineFault wrong line (NoEvent n) = wrong × (n ≡ line)
IsLineFault wrong line _ = ⊥

-- the fault of lines whose events can't be read: `NoEvent` with the first such line; that memory ran out says nothing
abbrev pub IsFaultOfReading : List Line → EventFault → Type 0
IsFaultOfReading lines Memory = Unit {0}
IsFaultOfReading lines (NoEvent n) = script_of lines ≡ Err n
IsFaultOfReading lines _ = ⊥
