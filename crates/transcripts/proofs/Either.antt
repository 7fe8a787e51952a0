-- Which edition the lines of a text have, and what the reading of any edition is.
use Rattle.std.proofs.Common.{◌≡◌, ◌↔◌, ◌⊎◌, ◌+◌, ◌∷◌, ◌&&◌, [], ◌∙◌, ℕ, Bool, true, false, Option, Some, None, Result, Ok, Err, List, ap, codes, length}
use Rattle.std.proofs.Common.{if◌then◌else◌, inl, inr, refl, sym}
use Rattle.std.proofs.lemmas.Slice.Eq.{bytes_eq-Decides}
use Rattle.std.specs.List.{filter}
use Rattle.std.specs.Str.{bytes_eq}
use Rattle.dimacs_col.specs.Lines.{Line, has_fields}
use Rattle.transcripts.specs.Behind.{AreStampedEntryLines, entry_lines, network_lines, reading_behind, transcript_lines}
use Rattle.transcripts.specs.Editions.{One, Two, any_from, any_named_from, any_reading_behind, as_one, as_two, begins_edition, is_edition}
use Rattle.transcripts.specs.EntryLines.{header_of, nodes_in, row_of, stamped_row_of}
use Rattle.transcripts.specs.Reading.{IsNamedText, IsStampedText, IsTranscriptText, StampedTranscript, Transcript, entries_from, named_from}
use Rattle.transcripts.specs.Reading.{stamped_from}
use Rattle.transcripts.proofs.EntryNumbers.{entries-have-lines}
use Rattle.transcripts.proofs.LinesBehind.{nothing-behind}
use Rattle.transcripts.proofs.Texts.{texts-are-read-from}

-- ---- which edition
module _ (edition : List ℕ) where
  pub edition-none : (lines : List Line) → lines ≡ [] → is_edition edition lines ≡ false
  unfolding is_edition
  edition-none lines e = rw e refl

  pub edition-blank : (lines : List Line) (line : Line) (rest : List Line) → lines ≡ line ∷ rest → line ≡ [] →
      is_edition edition lines ≡ is_edition edition rest
  unfolding is_edition
  edition-blank lines line rest e b = rw (e, b) refl

  pub edition-words : (lines : List Line) (line words : Line) (word : List ℕ) (rest : List Line) → lines ≡ line ∷ rest → line ≡ word ∷ words →
      is_edition edition lines ≡ begins_edition edition (word ∷ words)
  unfolding is_edition
  edition-words lines line words word rest e l = rw (e, l) refl

-- ---- what is read
module _ {M : Type 0} (payload_of : List ℕ → ℕ → Option M) (n : ℕ) (lines : List Line) where
  pub any-two : is_edition (codes "2") lines ≡ true → any_from payload_of n lines ≡ as_two (stamped_from payload_of n lines)
  any-two e = rw e refl

  pub any-one : is_edition (codes "2") lines ≡ false → any_from payload_of n lines ≡ as_one (entries_from payload_of n lines)
  any-one e = rw e refl

  any-three : is_edition (codes "3") lines ≡ true → any_named_from payload_of n lines ≡ as_two (named_from payload_of n lines)
  any-three e = rw e refl

  any-other : is_edition (codes "3") lines ≡ false → any_named_from payload_of n lines ≡ any_from payload_of n lines
  any-other e = rw e refl

-- ---- a transcript of an edition is read as one
and-right : (a b : Bool) → (a && b) ≡ true → b ≡ true
and-right true b e = e
and-right false b e = absurd cc

-- a first line of an edition begins with it, and with no other
header-is : (edition : List ℕ) (first : Line) (nodes : ℕ) → header_of edition first ≡ Some nodes → begins_edition edition first ≡ true
header-is edition [] nodes e = absurd cc
header-is edition (a ∷ []) nodes e = absurd cc
header-is edition (a ∷ b ∷ others) nodes e = by-test (bytes_eq a (codes "transcript") && bytes_eq b edition) refl e
  where
    by-test : (t : Bool) → (bytes_eq a (codes "transcript") && bytes_eq b edition) ≡ t →
        (if t then nodes_in edition others else None) ≡ Some nodes → (bytes_eq a (codes "transcript") && bytes_eq b edition) ≡ true
    by-test true t e = t
    by-test false t e = absurd cc

header-other : (edition other : List ℕ) (first : Line) (nodes : ℕ) → bytes_eq edition other ≡ false → header_of edition first ≡ Some nodes →
    begins_edition other first ≡ false
header-other edition other [] nodes apart e = refl
header-other edition other (a ∷ []) nodes apart e = refl
header-other edition other (a ∷ b ∷ others) nodes apart e = by-test (bytes_eq a (codes "transcript") && bytes_eq b edition) refl e
  where
    second : bytes_eq b edition ≡ true → (bytes_eq a (codes "transcript") && bytes_eq b other) ≡ false
    second one = by-first (bytes_eq a (codes "transcript"))
      where
        not-other : bytes_eq b other ≡ false
        not-other = ap (λ w. bytes_eq w other) ((bytes_eq-Decides b edition).0 one) ∙ apart

        by-first : (f : Bool) → (f && bytes_eq b other) ≡ false
        by-first true = not-other
        by-first false = refl

    by-test : (t : Bool) → (bytes_eq a (codes "transcript") && bytes_eq b edition) ≡ t →
        (if t then nodes_in edition others else None) ≡ Some nodes → (bytes_eq a (codes "transcript") && bytes_eq b other) ≡ false
    by-test true t e = second (and-right (bytes_eq a (codes "transcript")) (bytes_eq b edition) t)
    by-test false t e = absurd cc

edition-first : (edition : List ℕ) (lines : List Line) (first : Line) (body : List Line) → filter has_fields lines ≡ first ∷ body →
    is_edition edition lines ≡ begins_edition edition first
unfolding is_edition
edition-first edition [] first body e = absurd cc
edition-first edition ([] ∷ lines) first body e = edition-first edition lines first body e
edition-first edition ((word ∷ words) ∷ lines) first body e = let same : word ∷ words ≡ first = cc in ap (begins_edition edition) same

module _ {M : Type 0} (payload_of : List ℕ → ℕ → Option M) (n : ℕ) (lines : List Line) where
  not-two : (read : Transcript M) (r : Result (StampedTranscript M) ℕ) → as_two r ≡ Ok (One read) → ⊥
  not-two read (Ok told) e = absurd cc
  not-two read (Err k) e = absurd cc

  not-one : (read : StampedTranscript M) (r : Result (Transcript M) ℕ) → as_one r ≡ Ok (Two read) → ⊥
  not-one read (Ok told) e = absurd cc
  not-one read (Err k) e = absurd cc

  is-one : (read : Transcript M) (r : Result (Transcript M) ℕ) → as_one r ≡ Ok (One read) → r ≡ Ok read
  is-one read (Ok told) e = cc
  is-one read (Err k) e = absurd cc

  is-two : (read : StampedTranscript M) (r : Result (StampedTranscript M) ℕ) → as_two r ≡ Ok (Two read) → r ≡ Ok read
  is-two read (Ok told) e = cc
  is-two read (Err k) e = absurd cc

  one-from : (read : Transcript M) (b : Bool) → is_edition (codes "2") lines ≡ b → any_from payload_of n lines ≡ Ok (One read) →
      entries_from payload_of n lines ≡ Ok read
  one-from read true b e = absurd (not-two read _ (sym (any-two payload_of n lines b) ∙ e))
  one-from read false b e = is-one read _ (sym (any-one payload_of n lines b) ∙ e)

  two-from : (read : StampedTranscript M) (b : Bool) → is_edition (codes "2") lines ≡ b → any_from payload_of n lines ≡ Ok (Two read) →
      stamped_from payload_of n lines ≡ Ok read
  two-from read true b e = is-two read _ (sym (any-two payload_of n lines b) ∙ e)
  two-from read false b e = absurd (not-one read _ (sym (any-one payload_of n lines b) ∙ e))

  -- with edition 3 as well: without stamps it is of edition 1, and with them of edition 2 or 3
  pub one-named : (read : Transcript M) (b : Bool) → is_edition (codes "3") lines ≡ b → any_named_from payload_of n lines ≡ Ok (One read) →
      entries_from payload_of n lines ≡ Ok read
  one-named read true b e = absurd (not-two read _ (sym (any-three payload_of n lines b) ∙ e))
  one-named read false b e = one-from read (is_edition (codes "2") lines) refl (sym (any-other payload_of n lines b) ∙ e)

  pub two-named : (read : StampedTranscript M) (b : Bool) → is_edition (codes "3") lines ≡ b → any_named_from payload_of n lines ≡ Ok (Two read) →
      (stamped_from payload_of n lines ≡ Ok read) ⊎ (named_from payload_of n lines ≡ Ok read)
  two-named read true b e = inr (is-two read _ (sym (any-three payload_of n lines b) ∙ e))
  two-named read false b e = inl (two-from read (is_edition (codes "2") lines) refl (sym (any-other payload_of n lines b) ∙ e))

  pub either-one : (read : Transcript M) → (any_from payload_of n lines ≡ Ok (One read)) ↔ IsTranscriptText payload_of lines read
  either-one read =
      let texts = texts-are-read-from (codes "1") (row_of payload_of) n lines read in (
        λ e. texts.0 (one-from read (is_edition (codes "2") lines) refl e),
        λ is. any-one payload_of n lines (edition-first (codes "2") lines is.first is.body is.lines_are
            ∙ header-other (codes "1") (codes "2") is.first read.0 refl is.nodes_are) ∙ ap as_one (texts.1 is),
      )

  pub either-two : (read : StampedTranscript M) → (any_from payload_of n lines ≡ Ok (Two read)) ↔ IsStampedText payload_of lines read
  either-two read =
      let texts = texts-are-read-from (codes "2") (stamped_row_of payload_of) n lines read in (
        λ e. texts.0 (two-from read (is_edition (codes "2") lines) refl e),
        λ is. any-two payload_of n lines (edition-first (codes "2") lines is.first is.body is.lines_are
            ∙ header-is (codes "2") is.first read.0 is.nodes_are) ∙ ap as_two (texts.1 is),
      )

  pub named-one : (read : Transcript M) → (any_named_from payload_of n lines ≡ Ok (One read)) ↔ IsTranscriptText payload_of lines read
  named-one read =
      let texts = texts-are-read-from (codes "1") (row_of payload_of) n lines read in (
        λ e. texts.0 (one-named read (is_edition (codes "3") lines) refl e),
        λ is. any-other payload_of n lines (edition-first (codes "3") lines is.first is.body is.lines_are
            ∙ header-other (codes "1") (codes "3") is.first read.0 refl is.nodes_are) ∙ (either-one read).1 is,
      )

  pub named-two : (read : StampedTranscript M) →
      (any_named_from payload_of n lines ≡ Ok (Two read)) ↔ (IsStampedText payload_of lines read ⊎ IsNamedText payload_of lines read)
  named-two read = (from, to)
    where
      stamped : (stamped_from payload_of n lines ≡ Ok read) ↔ IsStampedText payload_of lines read
      stamped = texts-are-read-from (codes "2") (stamped_row_of payload_of) n lines read

      named : (named_from payload_of n lines ≡ Ok read) ↔ IsNamedText payload_of lines read
      named = texts-are-read-from (codes "3") (stamped_row_of payload_of) n lines read

      by : (stamped_from payload_of n lines ≡ Ok read) ⊎ (named_from payload_of n lines ≡ Ok read) →
          IsStampedText payload_of lines read ⊎ IsNamedText payload_of lines read
      by (inl e) = inl (stamped.0 e)
      by (inr e) = inr (named.0 e)

      from : any_named_from payload_of n lines ≡ Ok (Two read) → IsStampedText payload_of lines read ⊎ IsNamedText payload_of lines read
      from e = by (two-named read (is_edition (codes "3") lines) refl e)

      to : IsStampedText payload_of lines read ⊎ IsNamedText payload_of lines read → any_named_from payload_of n lines ≡ Ok (Two read)
      to (inl is) = any-other payload_of n lines (edition-first (codes "3") lines is.first is.body is.lines_are
          ∙ header-other (codes "2") (codes "3") is.first read.0 refl is.nodes_are) ∙ (either-two read).1 is
      to (inr is) = any-three payload_of n lines (edition-first (codes "3") lines is.first is.body is.lines_are
          ∙ header-is (codes "3") is.first read.0 is.nodes_are) ∙ ap as_two (named.1 is)

-- a transcript of edition 1 that is read behind a network text is read as one
pub read-one-behind : {M : Type 0} (payload_of : List ℕ → ℕ → Option M) (lines : List Line) (read : Transcript M) →
    any_reading_behind payload_of lines ≡ Ok (One read) → reading_behind payload_of lines ≡ Ok read
read-one-behind payload_of lines read e =
    let behind = transcript_lines lines in
    one-named payload_of (length (network_lines lines) + 1) behind read (is_edition (codes "3") behind) refl e

-- the lines of the entries of a transcript with stamps, behind a network text
pub stamped-have-lines : {M : Type 0} (payload_of : List ℕ → ℕ → Option M) (lines : List Line) (read : StampedTranscript M) →
    any_reading_behind payload_of lines ≡ Ok (Two read) → AreStampedEntryLines payload_of lines read.1 (entry_lines lines)
stamped-have-lines {M} payload_of lines read e =
    by (two-named payload_of (length (network_lines lines) + 1) (transcript_lines lines) read (is_edition (codes "3") (transcript_lines lines)) refl e)
  where
    n : ℕ
    n = length (network_lines lines) + 1

    by : (stamped_from payload_of n (transcript_lines lines) ≡ Ok read) ⊎ (named_from payload_of n (transcript_lines lines) ≡ Ok read) →
        AreStampedEntryLines payload_of lines read.1 (entry_lines lines)
    by (inl is) = entries-have-lines (codes "2") (stamped_row_of payload_of) lines read is
    by (inr is) = entries-have-lines (codes "3") (stamped_row_of payload_of) lines read is

-- ---- behind a network text
pub any-behind-is : {M : Type 0} (payload_of : List ℕ → ℕ → Option M) (lines rest : List Line) (start : ℕ) → start ≡ length (network_lines lines) →
    rest ≡ transcript_lines lines → any_named_from payload_of (start + 1) rest ≡ any_reading_behind payload_of lines
any-behind-is payload_of lines rest start s r =
    ap (λ n. any_named_from payload_of (n + 1) rest) s ∙ ap (any_named_from payload_of (length (network_lines lines) + 1)) r

pub no-any-behind : {M : Type 0} (payload_of : List ℕ → ℕ → Option M) (lines : List Line) → transcript_lines lines ≡ [] →
    any_reading_behind payload_of lines ≡ Err 1
no-any-behind payload_of lines e =
    let n = length (network_lines lines) + 1 in
    let behind = transcript_lines lines in
    any-other payload_of n behind (edition-none (codes "3") behind e)
    ∙ (any-one payload_of n behind (edition-none (codes "2") behind e)
    ∙ ap as_one (nothing-behind (codes "1") (row_of payload_of) lines e))
