-- What serving one command leaves in its reader and its two writers, and its status.
use Rattle.std.specs.Prelude.{◌≡◌, ◌⊎◌, ℕ, List, [], ◌∷◌, Option, Some, None, Result, Ok, Err, codes}
use Rattle.std.specs.declared.alloc.Global.{Global}
use Rattle.std.specs.declared.vec.Vec.{Vec}
use Rattle.whole_streams.specs.Streams.{EndsAfter}
use Rattle.whole_streams.specs.declared.source.ReadFault.{ReadFault}
use Rattle.whole_streams.specs.declared.source.ReadFault.TheVariants.{Memory, Stream}
use Rattle.reports.specs.Lines.{line_with}
use Rattle.command_line.specs.Asked.{AreRefused, AskForHelp}
use Rattle.command_line.specs.Line.{name_of}
use Rattle.command_line.specs.declared.executable.Executable.{Executable}
use Rattle.serving.specs.CommandSet.{CommandSet, fault_line, fault_status}
use Rattle.serving.specs.Streams.{HasFailed, HasNotFailed, IsCutOff, IsReadInTime, IsWritten, Taken, Written}

-- an executable's line if a stream failed
abbrev pub stream_line : Executable → List ℕ
stream_line executable = line_with (name_of executable) (codes "stream")

-- its line if memory ran out
abbrev pub memory_line : Executable → List ℕ
memory_line executable = line_with (name_of executable) (codes "memory")

-- its line if an input couldn't be read
abbrev pub unread_line : Executable → ReadFault → List ℕ
unread_line executable Stream = stream_line executable
unread_line executable Memory = memory_line executable

-- the text is written to errors, or a beginning of it, and then a write there failed
abbrev pub IsReported : Written → List ℕ → Type 0
IsReported errors text = IsWritten errors text ⊎ IsCutOff errors text

-- the words that are served if a word is no text: the executable's name, and U+FFFD in its three bytes
abbrev pub no_text_of : Executable → List (List ℕ)
no_text_of executable = name_of executable ∷ (239 ∷ 191 ∷ 189 ∷ []) ∷ []

-- nothing is written to output, the text goes to errors, and the status is the one that is wanted
abbrev pub Refuses : Written → Written → List ℕ → ℕ → ℕ → Type 0
Refuses output errors text wanted status = output.IsUntouched × IsReported errors text × (status ≡ wanted)

-- the text is written to output, or a beginning of it, and then a write failed, which is reported
abbrev pub Puts : Executable → Written → Written → List ℕ → ℕ → Type 0
Puts executable output errors text status =
    (IsWritten output text × errors.IsUntouched × (status ≡ 0))
    ⊎ (IsCutOff output text × IsReported errors (stream_line executable) × (status ≡ 4))

module _ {A F : Type 0} (commands : CommandSet A F) where
  -- the bytes of an answer go to output, and its fault is reported
  abbrev pub Gives : Executable → Written → Written → Result (List ℕ) F → ℕ → Type 0
  Gives executable output errors (Ok bytes) status = Puts executable output errors bytes status
  Gives executable output errors (Err fault) status =
      Refuses output errors (fault_line commands (name_of executable) fault) (fault_status commands fault) status

  -- the same of an answer that is returned; or there is no memory for the line of its fault
  abbrev pub GivesAnswer : Executable → Written → Written → Result (Vec ℕ Global) F → ℕ → Type 0
  GivesAnswer executable output errors (Ok bytes) status = Gives executable output errors (Ok bytes.items) status
  GivesAnswer executable output errors (Err fault) status =
      Gives executable output errors (Err fault) status ⊎ Refuses output errors (memory_line executable) 4 status

  -- the command may answer so to the bytes, and that is given
  abbrev pub Answers : A → List ℕ → Written → Written → ℕ → Type 0
  Answers request bytes output errors status = (answer : Result (List ℕ) F)
      × commands.MayAnswer request bytes answer × Gives commands.executable output errors answer status

  -- the input ends, and its bytes are answered; or a read fails; or memory runs out. At most READ_LIMIT reads are made
  abbrev pub Serves : A → Taken → Written → Written → ℕ → Type 0
  Serves request input output errors status = IsReadInTime input × (
      ((bytes : List ℕ) × EndsAfter input.before input.after bytes × HasNotFailed input
      × Answers request bytes output errors status)
      ⊎ (HasFailed input × Refuses output errors (stream_line commands.executable) 4 status)
      ⊎ (HasNotFailed input × Refuses output errors (memory_line commands.executable) 4 status))

  -- nothing is read; a text of help goes to output if the words ask for it, else a text that refuses them to errors
  abbrev pub Declines : List (List ℕ) → Taken → Written → Written → ℕ → Type 0
  Declines words input output errors status = input.IsUntouched × ((text : List ℕ) ×
      ((AskForHelp commands.executable words × Puts commands.executable output errors text status)
      ⊎ (AreRefused commands.executable words × Refuses output errors text 2 status)))

  -- if the words ask for a command it is served, else they are declined
  abbrev pub ServesChoice : Option A → List (List ℕ) → Taken → Written → Written → ℕ → Type 0
  ServesChoice (Some request) words input output errors status = Serves request input output errors status
  ServesChoice None words input output errors status = Declines words input output errors status

  -- the words are served, or memory runs out before anything is read
  abbrev pub ServesWords : List (List ℕ) → Taken → Written → Written → ℕ → Type 0
  ServesWords words input output errors status =
      ServesChoice (commands.request_of words) words input output errors status
      ⊎ (input.IsUntouched × Refuses output errors (memory_line commands.executable) 4 status)
