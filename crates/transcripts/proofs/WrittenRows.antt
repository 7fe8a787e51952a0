-- A text that was written of rows is read as these rows, in edition 1 and 2: if each row's line is read as the row, then line
-- by line (reads-rows), and behind the first line (written-read).
use Rattle.std.proofs.Common.{◌≡◌, ◌<◌, ◌+◌, ◌^◌, ◌++◌, ◌∷◌, [], ◌∙◌, ℕ, false, true, Option, Some, None, Ok, List, All}
use Rattle.std.proofs.Common.{arith, ap, append-nil, append_assoc, codes, flat_map, refl, rules, sym, option_and_then}
use Rattle.std.proofs.lemmas.List.Elements.{All-cons, All-head, All-nil, All-tail}
use Rattle.std.specs.Fmt.{decimal}
use Rattle.std.specs.Str.{bytes_eq}
use Rattle.dimacs_col.proofs.SmallNumbers.{small-decimal}
use Rattle.dimacs_col.proofs.Splitting.{last-line}
use Rattle.dimacs_col.specs.Lines.{Line, lines_of}
use Rattle.transcripts.specs.EntryLines.{header_of, only}
use Rattle.transcripts.specs.Reading.{Contents, known_after, read_from}
use Rattle.transcripts.specs.TranscriptText.{first_line_of, text_of}
use Rattle.transcripts.proofs.Readings.{header-right, read-one, row-right, then_read}
use Rattle.transcripts.proofs.Spaced.{IsWord, lines-spaced, spaced}
use Rattle.transcripts.proofs.Words.{small-word}

literal-first : IsWord (codes "transcript")
literal-first = (omega arith, grind (arith, rules))

module _ (edition : List ℕ) (word : IsWord edition) (same : bytes_eq edition edition ≡ true) (bare : bytes_eq edition (codes "3") ≡ false) (nodes : ℕ)
    (fits : nodes < 2 ^ 32) where
  -- the first line, and a text behind it
  first-text : (rest : List ℕ) → first_line_of edition nodes ++ rest ≡ spaced (codes "transcript") (edition ∷ decimal nodes ∷ []) ++ 10 ∷ rest
  first-text rest =
      append_assoc ((codes "transcript " ++ edition ++ codes " ") ++ decimal nodes) (10 ∷ []) rest
      ∙ ap (λ t. (codes "transcript " ++ t) ++ 10 ∷ rest) (append_assoc edition (codes " ") (decimal nodes))

  first-is : (rest : List ℕ) → lines_of (first_line_of edition nodes ++ rest) ≡ (codes "transcript" ∷ edition ∷ decimal nodes ∷ []) ∷ lines_of rest
  first-is rest =
      ap lines_of (first-text rest)
      ∙ lines-spaced (codes "transcript") (edition ∷ decimal nodes ∷ []) rest literal-first
      (All-cons IsWord edition (decimal nodes ∷ []) word (All-cons IsWord (decimal nodes) [] (small-word nodes fits) (All-nil IsWord)))

  reads-first : header_of edition (codes "transcript" ∷ edition ∷ decimal nodes ∷ []) ≡ Some nodes
  reads-first = rw (same, bare) (ap (option_and_then (λ n. only [] n)) (small-decimal nodes fits))

module _ {R : Type 0} (edition : List ℕ) (row_of : Line → Option R) (line_text : R → List ℕ) (IsReadable : R → Type 0) (first : R → List ℕ) (others : R → Line)
    (line-is : (row : R) (rest : List ℕ) → IsReadable row → lines_of (line_text row ++ rest) ≡ (first row ∷ others row) ∷ lines_of rest)
    (reads : (row : R) → IsReadable row → row_of (first row ∷ others row) ≡ Some row) where
  abbrev row_lines : List R → List Line
  row_lines [] = [] ∷ []
  row_lines (row ∷ rows) = (first row ∷ others row) ∷ row_lines rows

  lines-of : (rows : List R) → All IsReadable rows → lines_of (flat_map line_text rows) ≡ row_lines rows
  lines-of [] h = last-line
  lines-of (row ∷ rows) h =
      line-is row (flat_map line_text rows) (All-head IsReadable row rows h)
      ∙ ap (λ ls. (first row ∷ others row) ∷ ls) (lines-of rows (All-tail IsReadable row rows h))

  reads-end : (n : ℕ) (told : Contents R) → read_from edition row_of n (Some told) ([] ∷ []) ≡ Ok told
  unfolding read_from known_after
  reads-end n told = refl

  reads-rows : (n nodes : ℕ) (before rows : List R) → All IsReadable rows →
      read_from edition row_of n (Some (nodes, before)) (row_lines rows) ≡ Ok (nodes, before ++ rows)
  reads-rows n nodes before [] h = reads-end n (nodes, before) ∙ ap (λ l. Ok (nodes, l)) (sym (append-nil before))
  reads-rows n nodes before (row ∷ rows) h =
      let line = first row ∷ others row in
      read-one edition row_of n (Some (nodes, before)) line (row_lines rows)
      ∙ ap (then_read edition row_of n (row_lines rows)) (row-right edition row_of (Some (nodes, before)) (nodes, before) (nodes, before ++ row ∷ []) line
      (others row) (first row) row refl refl (reads row (All-head IsReadable row rows h)) refl)
      ∙ reads-rows (n + 1) nodes (before ++ row ∷ []) rows (All-tail IsReadable row rows h)
      ∙ ap (λ l. Ok (nodes, l)) (append_assoc before (row ∷ []) rows)

  pub written-read : IsWord edition → bytes_eq edition edition ≡ true → bytes_eq edition (codes "3") ≡ false → (nodes : ℕ) (rows : List R) →
      nodes < 2 ^ 32 → All IsReadable rows →
      read_from edition row_of 1 None (lines_of (text_of edition line_text nodes rows)) ≡ Ok (nodes, rows)
  written-read word same bare nodes rows h hs =
      let others = edition ∷ decimal nodes ∷ [] in
      let head = codes "transcript" ∷ others in
      ap (read_from edition row_of 1 None) (first-is edition word same bare nodes h (flat_map line_text rows) ∙ ap (λ ls. head ∷ ls) (lines-of rows hs))
      ∙ read-one edition row_of 1 None head (row_lines rows)
      ∙ ap (then_read edition row_of 1 (row_lines rows)) (header-right edition row_of None (nodes, []) head others (codes "transcript") nodes
      refl refl (reads-first edition word same bare nodes h) refl)
      ∙ reads-rows 2 nodes [] rows hs
