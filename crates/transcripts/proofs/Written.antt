-- A transcript that was written is read as its entries (written-one), and with stamps as its stamped entries (written-two).
use Rattle.std.proofs.Common.{◌≡◌, ◌<◌, ◌^◌, ◌++◌, ◌∷◌, [], ◌∙◌, ℕ, Some, Ok, List, All, ap, append_assoc, arith, codes, length, refl, rules, sym}
use Rattle.std.proofs.Common.{option_and_then}
use Rattle.std.proofs.lemmas.List.Elements.{All-cons}
use Rattle.std.specs.Char.{IsAsciiAlphabetic}
use Rattle.std.specs.Fmt.{decimal}
use Rattle.entries.specs.Rows.{stamped_row, vertex_row, without_stamp}
use Rattle.dimacs_col.specs.Lines.{Line, lines_of}
use Rattle.program_texts.specs.PayloadTexts.{PayloadTexts}
use Rattle.transcripts.specs.EntryLines.{row_of, row_with, stamped_row_of}
use Rattle.transcripts.specs.Reading.{reading_of, stamped_reading_of}
use Rattle.transcripts.specs.TranscriptText.{IsReadable, IsReadableStamped, entry_text, row_text, stamped_row_text, stamped_transcript_of, transcript_of}
use Rattle.entries.specs.declared.rows.Row.{Row}
use Rattle.entries.specs.declared.rows.StampedRow.{StampedRow}
use Rattle.transcripts.proofs.Spaced.{IsWord, lines-spaced, spaced}
use Rattle.transcripts.proofs.Words.{entry_words, reads-row, small-word, stamp-decimal, stamp-word, text-of, words-of}
use Rattle.transcripts.proofs.WrittenRows.{written-read}

literal-one : IsWord (codes "1")
literal-one = (omega arith, grind (arith, rules))

literal-two : IsWord (codes "2")
literal-two = (omega arith, grind (arith, rules))

module _ {M : Type 0} (payloads : PayloadTexts M) (letters : (x : M) → (0 < length (payloads.word_of x)) × All IsAsciiAlphabetic (payloads.word_of x)) where
  abbrev words : Row M → Line
  words row = entry_words payloads letters row.entry

  -- the line of an entry before a text, as its words
  row-text : (row : Row M) (rest : List ℕ) → row_text payloads row ++ rest ≡ spaced (decimal row.vertex) (words row) ++ 10 ∷ rest
  row-text row rest =
      append_assoc (decimal row.vertex ++ entry_text payloads row.entry) (10 ∷ []) rest
      ∙ ap (λ t. t ++ 10 ∷ rest) (text-of payloads letters row.vertex row.entry)

  row-line : (row : Row M) (rest : List ℕ) → IsReadable payloads row →
      lines_of (row_text payloads row ++ rest) ≡ (decimal row.vertex ∷ words row) ∷ lines_of rest
  row-line row rest h =
      ap lines_of (row-text row rest)
      ∙ lines-spaced (decimal row.vertex) (words row) rest (small-word row.vertex h.0) (words-of payloads letters row.entry h.1)

  stamped-line : (row : StampedRow M) (rest : List ℕ) → IsReadableStamped payloads row →
      lines_of (stamped_row_text payloads row ++ rest) ≡ (decimal row.stamp ∷ decimal row.vertex ∷ words (without_stamp row)) ∷ lines_of rest
  stamped-line row rest h =
      let words' = decimal row.vertex ∷ words (without_stamp row) in
      ap lines_of (append_assoc (decimal row.stamp) (32 ∷ row_text payloads (without_stamp row)) rest
      ∙ ap (λ t. decimal row.stamp ++ 32 ∷ t) (row-text (without_stamp row) rest)
      ∙ sym (append_assoc (decimal row.stamp) (32 ∷ spaced (decimal row.vertex) (words (without_stamp row))) (10 ∷ rest)))
      ∙ lines-spaced (decimal row.stamp) words' rest (stamp-word row.stamp h.0)
      (All-cons IsWord (decimal row.vertex) (words (without_stamp row)) (small-word row.vertex h.1.0)
      (words-of payloads letters row.entry h.1.1))

  reads-stamped : (row : StampedRow M) → IsReadableStamped payloads row →
      stamped_row_of payloads.payload_of (decimal row.stamp ∷ decimal row.vertex ∷ words (without_stamp row)) ≡ Some row
  reads-stamped row h =
      ap (option_and_then (λ s. row_with payloads.payload_of (stamped_row s) (decimal row.vertex ∷ words (without_stamp row)))) (stamp-decimal row.stamp h.0)
      ∙ reads-row payloads letters (stamped_row row.stamp) (without_stamp row) h.1

  pub written-one : (nodes : ℕ) (rows : List (Row M)) → nodes < 2 ^ 32 → All (IsReadable payloads) rows →
      reading_of payloads.payload_of (lines_of (transcript_of payloads nodes rows)) ≡ Ok (nodes, rows)
  written-one = written-read (codes "1") (row_of payloads.payload_of) (row_text payloads) (IsReadable payloads)
      (λ row. decimal row.vertex) words row-line (reads-row payloads letters vertex_row) literal-one refl refl

  pub written-two : (nodes : ℕ) (rows : List (StampedRow M)) → nodes < 2 ^ 32 → All (IsReadableStamped payloads) rows →
      stamped_reading_of payloads.payload_of (lines_of (stamped_transcript_of payloads nodes rows)) ≡ Ok (nodes, rows)
  written-two = written-read (codes "2") (stamped_row_of payloads.payload_of) (stamped_row_text payloads) (IsReadableStamped payloads)
      (λ row. decimal row.stamp) (λ row. decimal row.vertex ∷ words (without_stamp row)) stamped-line reads-stamped literal-two refl refl
