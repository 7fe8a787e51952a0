-- The lines before a text that begins with one of some words, and those from it on, after one more line.
use Rattle.std.proofs.Common.{◌≡◌, ◌++◌, ◌∷◌, [], ◌∙◌, ℕ, true, false, List, append_assoc, append-nil, ap}
use Rattle.std.proofs.Common.{Some, None, drop, All, Bool, Bor, ◌<◌, ◌||◌, arith, get_or, if◌then◌else◌, length, refl, subst, suc, sym, zero}
use Rattle.std.specs.List.{slice_get}
use Rattle.std.specs.Str.{bytes_eq}
use Rattle.std.proofs.lemmas.List.Elements.{All-append, All-cons, All-nil}
use Rattle.std.proofs.lemmas.Bool.{or_right}
use Rattle.dimacs_col.specs.Lines.{Line, fields_of, line_of, lines_of}
use Rattle.dimacs_col.specs.Split.{begins, is_one_of, lines_before, lines_from, words_in}

-- a field that is the word at an index
pub one-at : (field : List ℕ) (words : List (Bor (List ℕ))) (i : ℕ) (d : Bor (List ℕ)) → i < length words → bytes_eq field (get_or words i d).now ≡ true →
    is_one_of field (words_in words) ≡ true
one-at field [] i d lt e = absurd (omega arith)
one-at field (word ∷ words) zero d lt e = rw e refl
one-at field (word ∷ words) (suc i) d lt e = or_right (bytes_eq field word.now) (is_one_of field (words_in words)) (one-at field words i d (omega arith) e)

module _ (words : List (List ℕ)) where
  before-one : (line : Line) (lines : List Line) → begins words line ≡ false → lines_before words (line ∷ lines) ≡ line ∷ lines_before words lines
  unfolding lines_before
  before-one line lines e = rw e refl

  before-here : (line : Line) (lines : List Line) → begins words line ≡ true → lines_before words (line ∷ lines) ≡ []
  unfolding lines_before
  before-here line lines e = rw e refl

  from-one : (line : Line) (lines : List Line) → begins words line ≡ false → lines_from words (line ∷ lines) ≡ lines_from words lines
  unfolding lines_from
  from-one line lines e = rw e refl

  from-here : (line : Line) (lines : List Line) → begins words line ≡ true → lines_from words (line ∷ lines) ≡ line ∷ lines
  unfolding lines_from
  from-here line lines e = rw e refl

  -- lines none of which begins with one of the words
  pub record AreBefore (before : List Line) : Type 0 where
    pub network : (rest : List Line) → lines_before words (before ++ rest) ≡ before ++ lines_before words rest
    pub from : (rest : List Line) → lines_from words (before ++ rest) ≡ lines_from words rest

  pub before-none : AreBefore []
  before-none = record { network = λ rest. refl; from = λ rest. refl }

  pub before-push : (before : List Line) (line : Line) → begins words line ≡ false → AreBefore before → AreBefore (before ++ line ∷ [])
  before-push before line e is = record {
    network = λ rest.
        ap (lines_before words) (append_assoc before (line ∷ []) rest) ∙ is.network (line ∷ rest)
        ∙ ap (λ ls. before ++ ls) (before-one line rest e) ∙ sym (append_assoc before (line ∷ []) (lines_before words rest));
    from = λ rest. ap (lines_from words) (append_assoc before (line ∷ []) rest) ∙ is.from (line ∷ rest) ∙ from-one line rest e;
  }

  pub before-text : (before : List Line) (line : Line) (rest : List Line) → begins words line ≡ true → AreBefore before →
      (lines_before words (before ++ line ∷ rest) ≡ before) × (lines_from words (before ++ line ∷ rest) ≡ line ∷ rest)
  before-text before line rest e is =
      (is.network (line ∷ rest) ∙ ap (λ ls. before ++ ls) (before-here line rest e) ∙ append-nil before, is.from (line ∷ rest) ∙ from-here line rest e)

  nothing-before : lines_before words [] ≡ []
  unfolding lines_before
  nothing-before = refl

  nothing-from : lines_from words [] ≡ []
  unfolding lines_from
  nothing-from = refl

  pub before-end : (before : List Line) → AreBefore before → (lines_before words before ≡ before) × (lines_from words before ≡ [])
  before-end before is = (
    ap (lines_before words) (sym (append-nil before)) ∙ is.network [] ∙ ap (λ ls. before ++ ls) nothing-before ∙ append-nil before,
    ap (lines_from words) (sym (append-nil before)) ∙ is.from [] ∙ nothing-from,
  )

  -- the lines before the text don't begin with one of the words
  abbrev IsPlain : Line → Type 0
  IsPlain line = begins words line ≡ false

  pub front-all : (lines : List Line) → All IsPlain (lines_before words lines)
  unfolding lines_before
  front-all [] = All-nil IsPlain
  front-all (line ∷ lines) = front-by (begins words line) refl (front-all lines)
    where
      front-by : (b : Bool) → begins words line ≡ b → All IsPlain (lines_before words lines)
          → All IsPlain (if b then [] else line ∷ lines_before words lines)
      front-by true e more = All-nil IsPlain
      front-by false e more = All-cons IsPlain line (lines_before words lines) e more

  pub front-text : (lines text : List Line) → text ≡ lines_before words lines ++ [] ∷ [] → All IsPlain text
  front-text lines text is =
      let plain : begins words [] ≡ false = refl in
      subst (All IsPlain) (sym is)
      (All-append IsPlain (lines_before words lines) ([] ∷ []) (front-all lines) (All-cons IsPlain [] [] plain (All-nil IsPlain)))

  pub before-cons : (line : Line) (lines : List Line) → begins words line ≡ false → AreBefore lines → AreBefore (line ∷ lines)
  before-cons line lines e is = record {
    network = λ rest. before-one line (lines ++ rest) e ∙ ap (λ ls. line ∷ ls) (is.network rest);
    from = λ rest. from-one line (lines ++ rest) e ∙ is.from rest;
  }

-- an empty text has one line, without a field
pub empty-line : line_of [] ≡ []
unfolding fields_of
empty-line = refl

pub last-line : lines_of [] ≡ [] ∷ []
unfolding lines_of
last-line = ap (λ l. l ∷ []) empty-line

-- a line and its first field
pub line-none : (line : Line) → None ≡ slice_get line 0 → line ≡ []
line-none [] e = refl
line-none (word ∷ words) e = absurd cc

pub line-cons : (line rest : Line) (word : List ℕ) → Some word ≡ slice_get line 0 → rest ≡ drop 1 line → line ≡ word ∷ rest
line-cons [] rest word e r = absurd cc
line-cons (first ∷ words) rest word e r = let same : word ≡ first = cc in cc
