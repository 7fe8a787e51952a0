-- The answer to a network and the transcript behind it.
use Rattle.std.specs.Prelude.{◌≡◌, ◌≢◌, ◌⊎◌, ◌+◌, ◌-◌, ℕ, List, Option, Some, None, Result, Ok, Err}
use Rattle.std.specs.Prelude.{codes, ◌++◌, length, map, slice_get, slice_index_or, take}
use Rattle.std.specs.declared.vec.Vec.{Vec}
use Rattle.std.specs.declared.alloc.Global.{Global}
use Rattle.dimacs_col.specs.Lines.{Line, lines_of}
use Rattle.dimacs_col.specs.Reading.{IsFault}
use Rattle.interference.specs.Net.{Net, IsNetwork}
use Rattle.interference.specs.Making.{IsFaultOf}
use Rattle.node_api.specs.Program.{Program}
use Rattle.node_api.specs.Run.{last_state}
use Rattle.event_rule.specs.State.{State}
use Rattle.event_rule.specs.declared.refused.RunRefused.TheVariants as run
use Rattle.event_texts.specs.Missing.{expected_text, missing_text}
use Rattle.event_texts.specs.StateText.{state_text}
use Rattle.event_rule.specs.Replays.{IsReplay}
use Rattle.net_core.specs.Replays.{Stops}
use Rattle.entries.specs.Rows.{without_stamp}
use Rattle.event_rule.specs.Rows.{event_of}
use Rattle.net_core.specs.declared.refused.ReplayRefused.{ReplayRefused}
use Rattle.net_core.specs.declared.refused.ReplayRefused.TheVariants as replay
use Rattle.net_core.specs.declared.refused.WholeRefused.{WholeRefused}
use Rattle.net_core.specs.declared.refused.WholeRefused.TheVariants as whole
use Rattle.event_rule.specs.Whole.{IsWholeReplay}
use Rattle.net_core.specs.Whole.{StopsAtEntry, WhyNotWhole}
use Rattle.transcripts.specs.Behind.{entry_lines, entry_on, network_lines, program_in, stamped_entry_on}
use Rattle.transcripts.specs.Editions.{AnyTranscript, One, Two, any_reading_behind}
use Rattle.transcripts.specs.Reading.{StampedTranscript, Transcript}
use Rattle.entries.specs.declared.rows.Row.{Row}
use Rattle.entries.specs.declared.rows.StampedRow.{StampedRow}
use Rattle.program_texts.specs.Texts.{ProgramTexts}
use Rattle.program_texts.specs.PayloadTexts.{PayloadTexts}
use Rattle.plan_answers.specs.Answers.{LinesReadAs}
use Rattle.play_answers.specs.EventAnswers.{AreInStep}
use Rattle.play_inputs.specs.Settings.{LacksRoot, OfSet}
use Rattle.play_inputs.specs.declared.fault.PlayFault.{PlayFault}
use Rattle.play_inputs.specs.declared.fault.PlayFault.TheVariants as play
use Rattle.play_inputs.specs.declared.replays.ReplayFault.{ReplayFault}
use Rattle.play_inputs.specs.declared.replays.ReplayFault.TheVariants as fault
use Rattle.play_inputs.specs.declared.setting.Setting.{Setting}

-- the transcript that follows a network, or the number of its first wrong line
abbrev pub transcript_in : {M : Type 0} → PayloadTexts M → List Line → Result (AnyTranscript M) ℕ
transcript_in payloads lines = any_reading_behind payloads.payload_of lines

-- The entries of a transcript are a replay that leads to this state of the network. Those of edition 2 are a whole one:
-- they have the stamps that the nodes' counters give them, in their order, and the state is whole.
abbrev pub LeadsTo : {S M E : Type 0} → Program S M E → Net → AnyTranscript M → State S M → Type 0
LeadsTo program net (One read) state = IsReplay program net read.1 state
LeadsTo program net (Two read) state = IsWholeReplay program net read.1 state

-- the entries of the transcript in the lines lead to this state of the network
abbrev pub IsReplayed : {S M E : Type 0} → Program S M E → PayloadTexts M → Net → List Line → State S M → Type 0
IsReplayed program payloads net lines state =
    (read : AnyTranscript _) × (transcript_in payloads lines ≡ Ok read) × LeadsTo program net read state

-- if the transcript in the lines names its program, it is the one of this name
abbrev pub IsOfProgram : List ℕ → List Line → Type 0
IsOfProgram name lines = (named : List ℕ) → program_in lines ≡ Some named → named ≡ name

-- the answer is the text of the state that the transcript leads to, on the network that stands before it, as it is set,
-- and the last states of the synchronous run are what the program is for; the transcript names no other program
abbrev pub IsReplayAnswer : {S M E : Type 0} → Program S M E → ProgramTexts S → PayloadTexts M → Setting → List ℕ
    → List ℕ → Type 0
IsReplayAnswer program texts payloads setting input answer =
    LinesReadAs (network_lines (lines_of input)) (OfSet setting (λ net. IsNetwork net
    × ((state : State _ _) × IsReplayed program payloads net (lines_of input) state
    × (answer ≡ state_text program texts payloads net state) × AreInStep program net state)
    × texts.Solves net (last_state program net) × IsOfProgram texts.name (lines_of input)))

-- the number of the transcript's first line
abbrev pub first_line_in : List Line → ℕ
first_line_in lines = length (network_lines lines) + 1

-- the last of some numbers; another one if there are none
abbrev pub last_of : ℕ → List ℕ → ℕ
last_of other numbers = slice_index_or numbers (length numbers - 1) other

-- the number of the last entry's line; without entries, of the transcript's first line
abbrev pub last_line_in : List Line → ℕ
last_line_in lines = last_of (first_line_in lines) (entry_lines lines)

-- the number of the line of the entry at an index
abbrev pub line_at : List ℕ → ℕ → ℕ
line_at lines index = slice_index_or lines index 0

-- The first line of the transcript names another program than the one of this name, and the refusal says which.
pub record NamesAnother (name : List ℕ) (lines : List Line) (reported : ReplayFault) : Type 0 where
  pub named : List ℕ
  pub is_named : program_in lines ≡ Some named
  pub another : named ≢ name
  pub words : Vec ℕ Global
  pub says : words.items ≡ codes ": " ++ named
  pub is_reported : reported ≡ fault.WrongProgram (first_line_in lines) words

-- the same, or memory ran out
abbrev pub IsFaultOfName : List ℕ → List Line → ReplayFault → Type 0
IsFaultOfName name lines fault.Memory = Unit {0}
IsFaultOfName name lines reported = NamesAnother name lines reported

-- the refusal of a replay, with the line of its entry in place of the index, and words behind it
abbrev pub fault_at : List ℕ → Vec ℕ Global → ReplayRefused → ReplayFault
fault_at lines words (replay.Run (run.NotReady k)) = fault.NotReady (line_at lines k) words
fault_at lines words (replay.Run (run.NothingToPut k)) = fault.NothingToPut (line_at lines k) words
fault_at lines words (replay.Run (run.LinkEmpty k)) = fault.LinkEmpty (line_at lines k) words
fault_at lines words (replay.Run (run.NoSuch k)) = fault.NoSuch (line_at lines k)
fault_at lines words (replay.Run run.Memory) = fault.Memory
fault_at lines words (replay.WrongWire k) = fault.WrongWire (line_at lines k) words

-- the index of the entry that is refused, if memory isn't
abbrev pub index_of : ReplayRefused → Option ℕ
index_of (replay.Run (run.NotReady k)) = Some k
index_of (replay.Run (run.NothingToPut k)) = Some k
index_of (replay.Run (run.LinkEmpty k)) = Some k
index_of (replay.Run (run.NoSuch k)) = Some k
index_of (replay.Run run.Memory) = None
index_of (replay.WrongWire k) = Some k

-- a fact about the line whose number the refusal of an entry has; out of memory has no number
abbrev pub HasLine : (ℕ → Type 0) → ReplayFault → Type 0
HasLine at (fault.Syntax n) = ⊥
HasLine at (fault.WrongProgram n words) = ⊥
HasLine at (fault.NotReady n words) = at n
HasLine at (fault.NothingToPut n words) = at n
HasLine at (fault.LinkEmpty n words) = at n
HasLine at (fault.NoSuch n) = at n
HasLine at (fault.WrongWire n words) = at n
HasLine at (fault.WrongStamp n) = at n
HasLine at (fault.NotWhole n) = ⊥
HasLine at fault.Memory = Unit {0}

module _ {M : Type 0} (payloads : PayloadTexts M) where
  -- the line whose number a refusal has is this entry
  abbrev pub HasLineOf : List Line → Row M → ReplayFault → Type 0
  HasLineOf lines row reported = HasLine (λ n. entry_on payloads.payload_of lines n ≡ Some row) reported

  -- the line of a number is this entry with its stamp
  abbrev pub IsStampedLine : List Line → StampedRow M → ℕ → Type 0
  IsStampedLine lines row n = stamped_entry_on payloads.payload_of lines n ≡ Some row

-- the entries of edition 2 without their stamps
abbrev pub bare_rows : {M : Type 0} → List (StampedRow M) → List (Row M)
bare_rows rows = map (λ row. without_stamp row) rows

-- a refusal of entries says where they stop, unless memory ran out
abbrev pub StopsThere : {S M E : Type 0} → Program S M E → Net → List (Row M) → ReplayRefused → Type 0
StopsThere program net rows refused = refused ≢ replay.Run run.Memory → Stops program net rows refused

-- a refusal of stamped entries says why they aren't a whole replay, unless memory ran out
abbrev pub SaysWhyNot : {S M E : Type 0} → Program S M E → Net → List (StampedRow M) → WholeRefused → Type 0
SaysWhyNot program net rows refused =
    refused ≢ whole.Replay (replay.Run run.Memory) → WhyNotWhole program net rows refused

-- ---- the refusal of entries as a fault
module _ {S M E : Type 0} (program : Program S M E) (payloads : PayloadTexts M) where
  -- the words behind the refusal of an entry in a state: what its event lacks, or the pulse or wire that it comes to
  abbrev pub words_text : Net → State S M → Row M → ReplayRefused → List ℕ
  words_text net state row (replay.Run refused) = missing_text program net state (event_of net row)
  words_text net state row (replay.WrongWire k) =
      expected_text program payloads net state (event_of net row)

  -- The fault for a refusal of entries: the entries before the refused one are replayed once more, for the words.
  pub record IsRefusalOfEntry (net : Net) (rows : List (Row M)) (lines : List ℕ) (refused : ReplayRefused)
      (reported : ReplayFault) : Type 0 where
    pub index : ℕ
    pub is_index : index_of refused ≡ Some index
    pub row : Row M
    pub is_row : slice_get rows index ≡ Some row
    pub reached : State S M
    pub is_replay : IsReplay program net (take index rows) reached
    pub words : Vec ℕ Global
    pub says : words.items ≡ words_text net reached row refused
    pub is_reported : reported ≡ fault_at lines words refused

  -- the same, or memory ran out
  abbrev pub IsFaultOfEntry : Net → List (Row M) → List ℕ → ReplayRefused → ReplayFault → Type 0
  IsFaultOfEntry net rows lines refused fault.Memory = Unit {0}
  IsFaultOfEntry net rows lines refused reported = IsRefusalOfEntry net rows lines refused reported

  -- The fault for a refusal of stamped entries, with the numbers of the first line and of the entries' lines.
  abbrev pub IsFaultOfStamped : Net → List (StampedRow M) → ℕ → List ℕ → WholeRefused → ReplayFault → Type 0
  IsFaultOfStamped net rows first numbers (whole.Replay refused) reported =
      IsFaultOfEntry net (bare_rows rows) numbers refused reported
  IsFaultOfStamped net rows first numbers (whole.WrongStamp k) reported =
      reported ≡ fault.WrongStamp (line_at numbers k)
  IsFaultOfStamped net rows first numbers whole.NotWhole reported = reported ≡ fault.NotWhole (last_of first numbers)

-- ---- the refusal of a transcript
module _ {S M E : Type 0} (program : Program S M E) (payloads : PayloadTexts M) where
  -- The entries of the transcript of edition 1 in the lines stop, and this is the refusal, with the number of a line in
  -- place of the entry's index, and the words for the state in which the entries stop: that line is the entry.
  pub record IsRefusal (net : Net) (lines : List Line) (reported : ReplayFault) : Type 0 where
    pub read : Transcript M
    pub refused : ReplayRefused
    pub is_read : transcript_in payloads lines ≡ Ok (One read)
    pub stops : Stops program net read.1 refused
    pub words : Vec ℕ Global
    pub says : words.items ≡ words_text program payloads net stops.reached stops.row refused
    pub is_reported : reported ≡ fault_at (entry_lines lines) words refused
    pub has_line : HasLineOf payloads lines stops.row reported

  -- the refusal of an entry of edition 2 that isn't possible, or has another pulse or wire, as for edition 1
  pub record IsRefusalOfStampedEntry (net : Net) (lines : List Line) (rows : List (StampedRow M))
      (refused : ReplayRefused) (stops : StopsAtEntry program net rows refused) (reported : ReplayFault) : Type 0 where
    pub words : Vec ℕ Global
    pub says : words.items
        ≡ words_text program payloads net stops.at.reached (without_stamp stops.at.row) refused
    pub is_reported : reported ≡ fault_at (entry_lines lines) words refused
    pub has_line : HasLine (IsStampedLine payloads lines stops.at.row) reported

  -- The fault for a refusal of stamped entries: of an entry with the number of its line, which is the entry; of the
  -- state at the end with the number of the last entry's line.
  abbrev pub IsRefusalOfWhole : (net : Net) (lines : List Line) (rows : List (StampedRow M)) (refused : WholeRefused)
      → WhyNotWhole program net rows refused → ReplayFault → Type 0
  IsRefusalOfWhole net lines rows (whole.Replay refused) why reported =
      IsRefusalOfStampedEntry net lines rows refused why reported
  IsRefusalOfWhole net lines rows (whole.WrongStamp k) why reported =
      (reported ≡ fault.WrongStamp (line_at (entry_lines lines) k))
      × HasLine (IsStampedLine payloads lines why.at.row) reported
  IsRefusalOfWhole net lines rows whole.NotWhole why reported = reported ≡ fault.NotWhole (last_line_in lines)

  -- The entries of the transcript of edition 2 in the lines aren't a whole replay, and this is the refusal.
  pub record IsStampedRefusal (net : Net) (lines : List Line) (reported : ReplayFault) : Type 0 where
    pub read : StampedTranscript M
    pub refused : WholeRefused
    pub is_read : transcript_in payloads lines ≡ Ok (Two read)
    pub why : WhyNotWhole program net read.1 refused
    pub is_reported : IsRefusalOfWhole net lines read.1 refused why reported

  -- the fault of the transcript in the lines: its first wrong line, or else the refusal of its entries; that memory ran
  -- out says nothing
  abbrev pub IsFaultOfTranscript : Net → List Line → ReplayFault → Type 0
  IsFaultOfTranscript net lines fault.Memory = Unit {0}
  IsFaultOfTranscript net lines (fault.Syntax n) = transcript_in payloads lines ≡ Err n
  IsFaultOfTranscript net lines (fault.WrongProgram n words) = ⊥
  IsFaultOfTranscript net lines reported = IsRefusal net lines reported ⊎ IsStampedRefusal net lines reported

  -- the fault of a transcript that is to be of the program of a name: its first line names another one, or else the
  -- transcript has this fault
  abbrev pub IsFaultOfNamed : List ℕ → Net → List Line → ReplayFault → Type 0
  IsFaultOfNamed name net lines reported =
      IsFaultOfName name lines reported ⊎ (IsOfProgram name lines × IsFaultOfTranscript net lines reported)

  -- the fault of an input of `replay`, for a program with texts: of the network text before the transcript, or of the
  -- root, or else of the transcript
  abbrev pub IsFaultOfReplay : ProgramTexts S → Setting → List ℕ → PlayFault → Type 0
  IsFaultOfReplay texts setting input (play.Col fault) = IsFault (network_lines (lines_of input)) fault
  IsFaultOfReplay texts setting input (play.NoRoot v) =
      LinesReadAs (network_lines (lines_of input)) (LacksRoot setting v)
  IsFaultOfReplay texts setting input (play.Net fault) =
      LinesReadAs (network_lines (lines_of input)) (OfSet setting (λ net. IsFaultOf net fault))
  IsFaultOfReplay texts setting input (play.Replay fault) = LinesReadAs (network_lines (lines_of input))
      (OfSet setting (λ net. IsNetwork net × IsFaultOfNamed texts.name net (lines_of input) fault))
  IsFaultOfReplay texts setting input play.Memory = Unit {0}
  IsFaultOfReplay texts setting input _ = ⊥
