-- The text of a transcript, for payloads that are written by a word and a number.
use Rattle.std.specs.Prelude.{ℕ, ◌<◌, ◌^◌, List, [], ◌∷◌, ◌++◌, codes, flat_map}
use Rattle.std.specs.Fmt.{decimal}
use Rattle.entries.specs.declared.entry.Entry.{Entry}
use Rattle.entries.specs.declared.entry.Entry.TheVariants.{Pulse, Put, Take}
use Rattle.entries.specs.Rows.{without_stamp}
use Rattle.program_texts.specs.PayloadTexts.{PayloadTexts}
use Rattle.program_texts.specs.WireText
use Rattle.number_rows.specs.Row.{numbered}
use Rattle.program_texts.specs.WireText.{wire_text}
-- an entry with the vertex of its node, and the same with its stamp
use Rattle.entries.specs.declared.rows.Row.{Row}
use Rattle.entries.specs.declared.rows.StampedRow.{StampedRow}

-- the line `transcript EDITION NODES`
abbrev pub first_line_of : List ℕ → ℕ → List ℕ
first_line_of edition nodes = numbered (codes "transcript " ++ edition ++ codes " ") nodes ++ 10 ∷ []

-- that line, and a line for each row
abbrev pub text_of : {R : Type 0} → List ℕ → (R → List ℕ) → ℕ → List R → List ℕ
text_of edition line_of nodes rows = first_line_of edition nodes ++ flat_map line_of rows

-- the words of edition 3 in its first line: `3 NAME`
abbrev pub named_edition : List ℕ → List ℕ
named_edition name = codes "3 " ++ name

-- the line `transcript 1 NODES`
abbrev pub first_line : ℕ → List ℕ
first_line nodes = first_line_of (codes "1") nodes

module _ {M : Type 0} (payloads : PayloadTexts M) where
  -- an entry, with a space before each of its words
  abbrev pub entry_text : Entry M → List ℕ
  entry_text (Pulse p) = numbered (codes " pulse ") p
  entry_text (Put w wire) = numbered (codes " put ") w ++ wire_text payloads wire
  entry_text (Take w wire) = numbered (codes " take ") w ++ wire_text payloads wire

  -- the line of an entry: its vertex, the entry, and a line feed
  abbrev pub row_text : Row M → List ℕ
  row_text row = (decimal row.vertex ++ entry_text row.entry) ++ 10 ∷ []

  -- the same with the stamp and a space before it
  abbrev pub stamped_row_text : StampedRow M → List ℕ
  stamped_row_text row = decimal row.stamp ++ 32 ∷ row_text (without_stamp row)

  -- the line `transcript 1 NODES`, and a line for each entry
  abbrev pub transcript_of : ℕ → List (Row M) → List ℕ
  transcript_of nodes rows = text_of (codes "1") row_text nodes rows

  -- the line `transcript 2 NODES`, and a line for each entry with its stamp
  abbrev pub stamped_transcript_of : ℕ → List (StampedRow M) → List ℕ
  stamped_transcript_of nodes rows = text_of (codes "2") stamped_row_text nodes rows

  -- an entry that can be read from its line
  abbrev pub IsReadableEntry : Entry M → Type 0
  IsReadableEntry (Pulse p) = p < 2 ^ 32
  IsReadableEntry (Put w wire) = (w < 2 ^ 32) × WireText.IsReadable payloads wire
  IsReadableEntry (Take w wire) = (w < 2 ^ 32) × WireText.IsReadable payloads wire

  abbrev pub IsReadable : Row M → Type 0
  IsReadable row = (row.vertex < 2 ^ 32) × IsReadableEntry row.entry

  abbrev pub IsReadableStamped : StampedRow M → Type 0
  IsReadableStamped row = (row.stamp < 2 ^ 64) × IsReadable (without_stamp row)
