-- The numbers of the lines of entries. They increase (numbers-increase), each line is its entry (rows-numbered), and so behind
-- a network text, whose lines and the transcript's are all lines (lines-parted).
use Rattle.std.proofs.Common.{◌≡◌, ◌<◌, ◌+◌, ◌++◌, ◌∷◌, [], ◌∙◌, ℕ, zero, suc, Bool, true, false, Option, Some, Ok, List, All, ap, append_assoc, arith}
use Rattle.std.proofs.Common.{drop, if◌then◌else◌, length, map, option_and_then, refl, slice_get, subst, sym}
use Rattle.std.proofs.lemmas.List.{length-append}
use Rattle.std.proofs.lemmas.List.Elements.{All-cons, All-nil}
use Rattle.std.specs.List.{filter}
use Rattle.std.specs.List.Sorted.{IsStrictlyIncreasing}
use Rattle.dimacs_col.specs.Lines.{Line, has_fields}
use Rattle.dimacs_col.specs.Split.{begins, lines_before, lines_from}
use Rattle.transcripts.specs.Behind.{AreRowLines, entry_lines, network_lines, numbers_from, read_behind, row_on, transcript_lines, transcript_word}
use Rattle.transcripts.specs.Reading.{Contents, IsText}
use Rattle.transcripts.proofs.Texts.{texts-are-read-from}

-- ---- the numbers increase
numbers-above : (k n : ℕ) (lines : List Line) → k < n → All (λ m. k < m) (numbers_from n lines)
numbers-above k n [] lt = All-nil (λ m. k < m)
numbers-above k n ([] ∷ lines) lt = numbers-above k (n + 1) lines (omega (arith, lt))
numbers-above k n ((word ∷ words) ∷ lines) lt =
    All-cons (λ m. k < m) n (numbers_from (n + 1) lines) lt (numbers-above k (n + 1) lines (omega (arith, lt)))

increase-cons : (n : ℕ) (ns : List ℕ) → All (λ m. n < m) ns → IsStrictlyIncreasing ns → IsStrictlyIncreasing (n ∷ ns)
increase-cons n [] above is k lt = absurd (omega (arith, lt))
increase-cons n (m ∷ ns) above is zero lt = above 0 m (omega arith)
increase-cons n (m ∷ ns) above is (suc k) lt = let next : suc k + 1 ≡ suc (k + 1) = omega arith in rw next (is k (omega (arith, lt)))

numbers-increase : (n : ℕ) (lines : List Line) → IsStrictlyIncreasing (numbers_from n lines)
numbers-increase n [] = λ k lt. absurd (omega (arith, lt))
numbers-increase n ([] ∷ lines) = numbers-increase (n + 1) lines
numbers-increase n ((word ∷ words) ∷ lines) =
    increase-cons n (numbers_from (n + 1) lines) (numbers-above n (n + 1) lines (omega arith)) (numbers-increase (n + 1) lines)

-- ---- the lines before a word's first one, and those from it on
module _ (words : List (List ℕ)) where
  lines-parted : (lines : List Line) → lines_before words lines ++ lines_from words lines ≡ lines
  unfolding lines_before lines_from
  lines-parted [] = refl
  lines-parted (line ∷ lines) = part-by (begins words line) (lines-parted lines)
    where
      part-by : (b : Bool) → lines_before words lines ++ lines_from words lines ≡ lines →
          (if b then [] else line ∷ lines_before words lines) ++ (if b then line ∷ lines else lines_from words lines) ≡ line ∷ lines
      part-by true e = refl
      part-by false e = ap (λ ls. line ∷ ls) e

  -- no line, or a first one that has fields
  abbrev HasHead : List Line → Type 0
  HasHead [] = Unit {0}
  HasHead ([] ∷ lines) = ⊥
  HasHead ((first ∷ others) ∷ lines) = Unit {0}

  from-head : (lines : List Line) → HasHead (lines_from words lines)
  unfolding lines_from
  from-head [] = tt
  from-head ([] ∷ lines) = from-head lines
  from-head ((first ∷ others) ∷ lines) = head-by (begins words (first ∷ others)) (from-head lines)
    where
      head-by : (b : Bool) → HasHead (lines_from words lines) → HasHead (if b then (first ∷ others) ∷ lines else lines_from words lines)
      head-by true h = tt
      head-by false h = h

-- ---- the line of each number is its entry
line-here : (before : List Line) (line : Line) (lines : List Line) → slice_get (before ++ line ∷ lines) (length before) ≡ Some line
line-here [] line lines = refl
line-here (first ∷ before) line lines = line-here before line lines

module _ {R : Type 0} (edition : List ℕ) (row_of : Line → Option R) where
  rows-numbered : (before lines : List Line) (n : ℕ) → n ≡ suc (length before) →
      map (row_on row_of (before ++ lines)) (numbers_from n lines) ≡ map row_of (filter has_fields lines)
  rows-numbered before [] n s = refl
  rows-numbered before (line ∷ lines) n s =
      numbered-by line refl (rows-numbered (before ++ line ∷ []) lines (n + 1) (omega (arith, s, length-append before (line ∷ []))))
    where
      More : Type 0
      More = map (row_on row_of ((before ++ line ∷ []) ++ lines)) (numbers_from (n + 1) lines) ≡ map row_of (filter has_fields lines)

      later : More → map (row_on row_of (before ++ line ∷ lines)) (numbers_from (n + 1) lines) ≡ map row_of (filter has_fields lines)
      later more = ap (λ ls. map (row_on row_of ls) (numbers_from (n + 1) lines)) (sym (append_assoc before (line ∷ []) lines)) ∙ more

      here : row_on row_of (before ++ line ∷ lines) n ≡ row_of line
      here = ap (row_on row_of (before ++ line ∷ lines)) s ∙ ap (option_and_then row_of) (line-here before line lines)

      numbered-by : (l : Line) → line ≡ l → More →
          map (row_on row_of (before ++ line ∷ lines)) (numbers_from n (line ∷ lines)) ≡ map row_of (filter has_fields (line ∷ lines))
      numbered-by [] e more = rw e (rw e at (later more))
      numbered-by (word ∷ words) e more =
          rw e (rw e at (ap (λ o. o ∷ map (row_on row_of (before ++ line ∷ lines)) (numbers_from (n + 1) lines)) here
          ∙ ap (λ os. row_of line ∷ os) (later more)))

  rows-behind : (network lines : List Line) (read : Contents R) → HasHead transcript_word lines → IsText edition row_of lines read →
      map (row_on row_of (network ++ lines)) (numbers_from (length network + 2) (drop 1 lines)) ≡ map (λ row. Some row) read.1
  rows-behind network [] read h is = let wrong : [] ≡ is.first ∷ is.body = is.lines_are in absurd cc
  rows-behind network ([] ∷ lines) read h is = absurd h
  rows-behind network ((word ∷ words) ∷ lines) read h is =
      let line : Line = word ∷ words in
      let all : line ∷ filter has_fields lines ≡ is.first ∷ is.body = is.lines_are in
      let body : filter has_fields lines ≡ is.body = cc in
      ap (λ ls. map (row_on row_of ls) (numbers_from (length network + 2) lines)) (sym (append_assoc network (line ∷ []) lines))
      ∙ rows-numbered (network ++ line ∷ []) lines (length network + 2) (omega (arith, length-append network (line ∷ [])))
      ∙ ap (map row_of) body ∙ is.rows_are

  pub entries-have-lines : (lines : List Line) (read : Contents R) → read_behind edition row_of lines ≡ Ok read →
      AreRowLines row_of lines read.1 (entry_lines lines)
  entries-have-lines lines read e =
      let n = length (network_lines lines) in
      let behind = drop 1 (transcript_lines lines) in
      let is = (texts-are-read-from edition row_of (n + 1) (transcript_lines lines) read).0 e in record {
        increase = numbers-increase (n + 2) behind;
        behind = numbers-above (n + 1) (n + 2) behind (omega arith);
        rows_are = subst (λ ls. map (row_on row_of ls) (entry_lines lines) ≡ map (λ row. Some row) read.1) (lines-parted transcript_word lines)
            (rows-behind (network_lines lines) (transcript_lines lines) read (from-head transcript_word lines) is);
      }
