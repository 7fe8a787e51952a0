-- The reading of a transcript behind a network text. Lines count from the first one of the whole input.
use Rattle.std.specs.Prelude.{◌≡◌, ℕ, zero, suc, ◌+◌, ◌<◌, Option, Some, None, option_and_then, Result}
use Rattle.std.specs.Prelude.{List, [], ◌∷◌, codes, drop, if◌then◌else◌, length, map, slice_get}
use Rattle.std.specs.List.{All}
use Rattle.std.specs.List.Sorted.{IsStrictlyIncreasing}
use Rattle.dimacs_col.specs.Lines.{Line, has_fields}
use Rattle.dimacs_col.specs.Split.{AreLinesBefore, lines_before, lines_from}
use Rattle.transcripts.specs.EntryLines.{name_in, row_of, stamped_row_of}
use Rattle.transcripts.specs.Reading.{Contents, Transcript, read_from}
use Rattle.entries.specs.declared.rows.Row.{Row}
use Rattle.entries.specs.declared.rows.StampedRow.{StampedRow}

-- the word that a transcript begins with
abbrev pub transcript_word : List (List ℕ)
transcript_word = codes "transcript" ∷ []

-- the lines of the network text: those before the first one whose first field is `transcript`
abbrev pub network_lines : List Line → List Line
network_lines lines = lines_before transcript_word lines

-- these lines, perhaps with an empty line behind them, as after a last line feed
abbrev pub AreNetworkLines : List Line → List Line → Type 0
AreNetworkLines lines network = AreLinesBefore transcript_word lines network

-- the lines of the transcript: from that one on
abbrev pub transcript_lines : List Line → List Line
transcript_lines lines = lines_from transcript_word lines

-- the name of the program in the first of some lines, if that is of edition 3
abbrev pub first_name : List Line → Option (List ℕ)
first_name [] = None
first_name (line ∷ lines) = name_in line

-- the name of the program that a transcript behind a network text has in its first line, if that is of edition 3
abbrev pub program_in : List Line → Option (List ℕ)
program_in lines = first_name (transcript_lines lines)

-- the reading of the lines behind a network text
abbrev pub read_behind : {R : Type 0} → List ℕ → (Line → Option R) → List Line → Result (Contents R) ℕ
read_behind edition row_of lines =
    read_from edition row_of (length (network_lines lines) + 1) None (transcript_lines lines)

-- the transcript of edition 1 that follows a network text, or the number of its first wrong line; line 1 if there is
-- none
abbrev pub reading_behind : {M : Type 0} → (List ℕ → ℕ → Option M) → List Line → Result (Transcript M) ℕ
reading_behind payload_of lines = read_behind (codes "1") (row_of payload_of) lines

-- the numbers of the lines that have fields, from line n on
abbrev pub numbers_from : ℕ → List Line → List ℕ
numbers_from n [] = []
numbers_from n (line ∷ lines) = if has_fields line then n ∷ numbers_from (n + 1) lines else numbers_from (n + 1) lines

-- the numbers of the lines of the entries: of those behind the transcript's first line
abbrev pub entry_lines : List Line → List ℕ
entry_lines lines = numbers_from (length (network_lines lines) + 2) (drop 1 (transcript_lines lines))

module _ {R : Type 0} (row_of : Line → Option R) where
  -- the row that the line of a number is; the first line has the number 1
  abbrev pub row_on : List Line → ℕ → Option R
  row_on lines zero = None
  row_on lines (suc k) = option_and_then row_of (slice_get lines k)

  -- the numbers of the lines of these rows, one for each and in their order, all behind the transcript's first line
  pub record AreRowLines (lines : List Line) (rows : List R) (numbers : List ℕ) : Type 0 where
    pub increase : IsStrictlyIncreasing numbers
    pub behind : All (λ n. length (network_lines lines) + 1 < n) numbers
    pub rows_are : map (row_on lines) numbers ≡ map Some rows

module _ {M : Type 0} (payload_of : List ℕ → ℕ → Option M) where
  -- the entry that the line of a number is
  abbrev pub entry_on : List Line → ℕ → Option (Row M)
  entry_on lines n = row_on (row_of payload_of) lines n

  -- the entry that the line of a number is, with its stamp
  abbrev pub stamped_entry_on : List Line → ℕ → Option (StampedRow M)
  stamped_entry_on lines n = row_on (stamped_row_of payload_of) lines n

  -- the numbers of the lines of these entries
  abbrev pub AreEntryLines : List Line → List (Row M) → List ℕ → Type 0
  AreEntryLines lines rows numbers = AreRowLines (row_of payload_of) lines rows numbers

  -- the numbers of the lines of these entries with their stamps
  abbrev pub AreStampedEntryLines : List Line → List (StampedRow M) → List ℕ → Type 0
  AreStampedEntryLines lines rows numbers = AreRowLines (stamped_row_of payload_of) lines rows numbers
