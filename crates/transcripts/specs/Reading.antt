-- The reading of a transcript: its first line, `transcript EDITION NODES`, and then a row a line. An edition is a word,
-- and what row a line of it is; in edition 3 the name of a program stands before NODES.
use Rattle.std.specs.Prelude.{◌≡◌, ℕ, ◌+◌, Option, Some, None, option_map, Result, Ok, Err, List, [], ◌∷◌, ◌++◌}
use Rattle.std.specs.Prelude.{codes, filter, map}
use Rattle.dimacs_col.specs.Lines.{Line, has_fields}
use Rattle.entries.specs.declared.rows.Row.{Row}
use Rattle.entries.specs.declared.rows.StampedRow.{StampedRow}
use Rattle.transcripts.specs.EntryLines.{header_of, row_of, stamped_row_of}
use Rattle.transcripts.specs.declared.fault.TextFault.{TextFault}
use Rattle.transcripts.specs.declared.fault.TextFault.TheVariants.{Memory, Syntax}

-- how many nodes there are, and the rows
abbrev pub Contents : Type 0 → Type 0
Contents R = ℕ × List R

-- at the end of a text: what it says; line 1 is wrong if no line has a field
abbrev pub read_at_end : {R : Type 0} → Option (Contents R) → Result (Contents R) ℕ
read_at_end None = Err 1
read_at_end (Some known) = Ok known

module _ {R : Type 0} (edition : List ℕ) (row_of : Line → Option R) where
  -- What is known after a line: the nodes and the rows so far, or `None` before the first line. A line without a field
  -- changes nothing. The whole is `None` for a line that is wrong there.
  unfoldable pub known_after : Option (Contents R) → Line → Option (Option (Contents R))
  known_after known [] = Some known
  known_after None (word ∷ words) = option_map (λ nodes. Some (nodes, [])) (header_of edition (word ∷ words))
  known_after (Some known) (word ∷ words) =
      option_map (λ row. Some (known.0, known.1 ++ row ∷ [])) (row_of (word ∷ words))

  -- the lines from line n on, after what is known: the whole, or the number of the first wrong line
  unfoldable pub read_from : ℕ → Option (Contents R) → List Line → Result (Contents R) ℕ
  read_from n known [] = read_at_end known
  read_from n known (line ∷ lines) =
      elim (known_after known line) [ None ↦ Err n | Some next ↦ read_from (n + 1) next lines ]

  -- the lines that have fields are a first line of the edition and then these rows
  pub record IsText (lines : List Line) (read : Contents R) : Type 0 where
    pub first : Line
    pub body : List Line
    pub lines_are : filter has_fields lines ≡ first ∷ body
    pub nodes_are : header_of edition first ≡ Some read.0
    pub rows_are : map row_of body ≡ map Some read.1

-- a transcript of edition 1: how many nodes there are, and the entries
abbrev pub Transcript : Type 0 → Type 0
Transcript M = Contents (Row M)

-- a transcript of edition 2: how many nodes there are, and the entries with their stamps
abbrev pub StampedTranscript : Type 0 → Type 0
StampedTranscript M = Contents (StampedRow M)

module _ {M : Type 0} (payload_of : List ℕ → ℕ → Option M) where
  -- the lines from line n on, as edition 1 and as edition 2
  abbrev pub entries_from : ℕ → List Line → Result (Transcript M) ℕ
  entries_from n lines = read_from (codes "1") (row_of payload_of) n None lines

  abbrev pub stamped_from : ℕ → List Line → Result (StampedTranscript M) ℕ
  stamped_from n lines = read_from (codes "2") (stamped_row_of payload_of) n None lines

  -- the same as edition 3, whose first line has the name of a program too
  abbrev pub named_from : ℕ → List Line → Result (StampedTranscript M) ℕ
  named_from n lines = read_from (codes "3") (stamped_row_of payload_of) n None lines

  -- the transcript of edition 1 that a text is, or the number of its first wrong line
  abbrev pub reading_of : List Line → Result (Transcript M) ℕ
  reading_of lines = entries_from 1 lines

  -- the transcript of edition 2 that a text is, or the number of its first wrong line
  abbrev pub stamped_reading_of : List Line → Result (StampedTranscript M) ℕ
  stamped_reading_of lines = stamped_from 1 lines

  -- the lines that have fields are the line `transcript 1 NODES` and then these entries
  abbrev pub IsTranscriptText : List Line → Transcript M → Type 0
  IsTranscriptText lines read = IsText (codes "1") (row_of payload_of) lines read

  -- the lines that have fields are the line `transcript 2 NODES` and then these entries with their stamps
  abbrev pub IsStampedText : List Line → StampedTranscript M → Type 0
  IsStampedText lines read = IsText (codes "2") (stamped_row_of payload_of) lines read

  -- the same, but the first line is `transcript 3 NAME NODES`
  abbrev pub IsNamedText : List Line → StampedTranscript M → Type 0
  IsNamedText lines read = IsText (codes "3") (stamped_row_of payload_of) lines read

-- the fault of a reading: X1 with the number of the first wrong line; that memory ran out says nothing of the lines
abbrev pub IsFaultOf : {A : Type 0} → Result A ℕ → TextFault → Type 0
IsFaultOf reading Memory = Unit {0}
IsFaultOf reading (Syntax n) = reading ≡ Err n
