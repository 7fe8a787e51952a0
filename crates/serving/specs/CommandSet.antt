-- The commands of an executable.
use Rattle.std.specs.Prelude.{Bool, ℕ, List, Option, Result}
use Rattle.command_line.specs.declared.executable.Executable.{Executable}
use Rattle.reports.specs.Lines.{line_with}

-- those of an executable that may be asked for an A, and whose faults are F
pub record CommandSet (A F : Type 0) : Type 1 where
  pub executable : Executable
  -- what its words ask for
  pub request_of : List (List ℕ) → Option A
  -- whether this starts worker threads; what starts none is proved to return
  pub starts_threads : A → Bool
  -- the bytes that may be answered to the bytes of an input, or the fault
  pub MayAnswer : A → List ℕ → Result (List ℕ) F → Type 0
  -- the text of a fault, and the status of the program
  pub fault_text : F → List ℕ × ℕ

module _ {A F : Type 0} (commands : CommandSet A F) where
  -- the line with which a program of a name reports a fault
  abbrev pub fault_line : List ℕ → F → List ℕ
  fault_line name fault = line_with name (commands.fault_text fault).0

  abbrev pub fault_status : F → ℕ
  fault_status fault = (commands.fault_text fault).1
