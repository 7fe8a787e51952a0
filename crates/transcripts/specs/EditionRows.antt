-- What differs between the rows of the editions: from edition 2 on a line begins with a stamp.
use Rattle.std.specs.Prelude.{ℕ, Bool, true, false, Option, None, option_and_then, Result, List}
use Rattle.dimacs_col.specs.Lines.{Line}
use Rattle.entries.specs.declared.entry.Entry.{Entry}
use Rattle.transcripts.specs.EntryLines.{row_with, stamp_number, with_next}
use Rattle.transcripts.specs.Reading.{Contents, known_after, read_from}

module _ {R M : Type 0} (stamped : Bool) (made : ℕ → ℕ → Entry M → R) (payload_of : List ℕ → ℕ → Option M) where
  -- the row of a line, if it is one, made of its stamp, vertex and entry; in edition 1 a line has no stamp, and 0 is
  -- handed on, which such a row leaves out
  abbrev pub row_in : Line → Option R
  row_in line = elim stamped [
    | false ↦ row_with payload_of (made 0) line
    | true ↦ with_next (λ field others.
        option_and_then (λ stamp. row_with payload_of (made stamp) others) (stamp_number field)) line
  ]

  -- what is known after a line of an edition
  abbrev pub edition_after : List ℕ → Option (Contents R) → Line → Option (Option (Contents R))
  edition_after edition known line = known_after edition row_in known line

  -- the lines from line n on, as an edition
  abbrev pub edition_from : List ℕ → ℕ → List Line → Result (Contents R) ℕ
  edition_from edition n lines = read_from edition row_in n None lines
