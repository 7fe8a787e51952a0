-- The reading of a transcript of any edition. Its first line says which one it is.
use Rattle.std.specs.Prelude.{ℕ, ◌+◌, Bool, false, Option, Result, Ok, Err, List, [], ◌∷◌, ◌&&◌, codes}
use Rattle.std.specs.Prelude.{if◌then◌else◌, length}
use Rattle.std.specs.Str.{bytes_eq}
use Rattle.dimacs_col.specs.Lines.{Line}
use Rattle.transcripts.specs.Behind.{network_lines, transcript_lines}
use Rattle.transcripts.specs.Reading.{StampedTranscript, Transcript, entries_from, named_from, stamped_from}
use Rattle.transcripts.specs.declared.editions.Transcript as declared
use Rattle.transcripts.specs.declared.editions.Transcript.TheVariants as read

-- a transcript without stamps, of edition 1, or one with them, of edition 2 or 3
pub data AnyTranscript (M : Type 0) : Type 0 where
  One : Transcript M → AnyTranscript M
  Two : StampedTranscript M → AnyTranscript M

-- what a value that was read says
abbrev pub said_by : {M : Type 0} → declared.Transcript M → AnyTranscript M
said_by (read.One nodes rows) = One (nodes, rows.items)
said_by (read.Two nodes rows) = Two (nodes, rows.items)

-- whether a line begins with `transcript` and this edition
abbrev pub begins_edition : List ℕ → Line → Bool
begins_edition edition [] = false
begins_edition edition (first ∷ []) = false
begins_edition edition (first ∷ second ∷ others) = bytes_eq first (codes "transcript") && bytes_eq second edition

-- whether the first line that has fields does
unfoldable pub is_edition : List ℕ → List Line → Bool
is_edition edition [] = false
is_edition edition ([] ∷ lines) = is_edition edition lines
is_edition edition ((word ∷ words) ∷ lines) = begins_edition edition (word ∷ words)

-- a reading without stamps, or with them, as one of either
abbrev pub as_one : {M : Type 0} → Result (Transcript M) ℕ → Result (AnyTranscript M) ℕ
as_one (Ok contents) = Ok (One contents)
as_one (Err n) = Err n

abbrev pub as_two : {M : Type 0} → Result (StampedTranscript M) ℕ → Result (AnyTranscript M) ℕ
as_two (Ok contents) = Ok (Two contents)
as_two (Err n) = Err n

module _ {M : Type 0} (payload_of : List ℕ → ℕ → Option M) where
  -- the lines from line n on: as edition 2 if they begin with `transcript 2`, else as edition 1
  abbrev pub any_from : ℕ → List Line → Result (AnyTranscript M) ℕ
  any_from n lines =
      if is_edition (codes "2") lines then as_two (stamped_from payload_of n lines)
      else as_one (entries_from payload_of n lines)

  -- the same, but as edition 3 if they begin with `transcript 3`
  abbrev pub any_named_from : ℕ → List Line → Result (AnyTranscript M) ℕ
  any_named_from n lines =
      if is_edition (codes "3") lines then as_two (named_from payload_of n lines) else any_from n lines

  -- the transcript that a text is, or the number of its first wrong line
  abbrev pub any_reading_of : List Line → Result (AnyTranscript M) ℕ
  any_reading_of lines = any_from 1 lines

  -- the transcript that follows a network text, or the number of its first wrong line; line 1 if there is none
  abbrev pub any_reading_behind : List Line → Result (AnyTranscript M) ℕ
  any_reading_behind lines = any_named_from (length (network_lines lines) + 1) (transcript_lines lines)
