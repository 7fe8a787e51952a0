-- The lines of a network text and of the text that follows it, which begins with a word.
use Rattle.std.specs.Prelude.{◌≡◌, ◌⊎◌, ℕ, Bool, true, false, List, [], ◌∷◌, ◌++◌, if◌then◌else◌, map}
use Rattle.std.specs.List.{All, list_any}
use Rattle.std.specs.Borrow.{Bor}
use Rattle.std.specs.Str.{bytes_eq}
use Rattle.dimacs_col.specs.Lines.{Line, lines_of}

-- the bytes of some words
abbrev pub words_in : List (Bor (List ℕ)) → List (List ℕ)
words_in words = map (λ word. word.now) words

-- whether a field is one of some words
abbrev pub is_one_of : List ℕ → List (List ℕ) → Bool
is_one_of field words = list_any (λ word. bytes_eq field word) words

-- whether the first field of a line is one of some words
abbrev pub begins : List (List ℕ) → Line → Bool
begins words [] = false
begins words (first ∷ others) = is_one_of first words

-- the lines before the first one whose first field is one of some words
unfoldable pub lines_before : List (List ℕ) → List Line → List Line
lines_before words [] = []
lines_before words (line ∷ lines) = if begins words line then [] else line ∷ lines_before words lines

-- the lines from that one on
unfoldable pub lines_from : List (List ℕ) → List Line → List Line
lines_from words [] = []
lines_from words (line ∷ lines) = if begins words line then line ∷ lines else lines_from words lines

-- a text is empty or ends with a line feed
abbrev pub EndsLine : List ℕ → Type 0
EndsLine text = (text ≡ []) ⊎ ((before : List ℕ) × (text ≡ before ++ 10 ∷ []))

-- the first line of a text has one of some words as its first field
abbrev pub Starts : List (List ℕ) → List ℕ → Type 0
Starts words text = (line : Line) × (lines : List Line) × (lines_of text ≡ line ∷ lines) × (begins words line ≡ true)

-- A text is cut where the text of a word begins: behind a line feed, at the first line whose first field is one of some
-- words. If there is no such line, nothing is behind the cut.
pub record IsSplit (words : List (List ℕ)) (text front behind : List ℕ) : Type 0 where
  pub whole : front ++ behind ≡ text
  pub before : All (λ line. begins words line ≡ false) (lines_of front)
  pub from : (behind ≡ []) ⊎ (EndsLine front × Starts words behind)

-- the lines before the cut, perhaps with an empty line behind them, as after a last line feed
abbrev pub AreLinesBefore : List (List ℕ) → List Line → List Line → Type 0
AreLinesBefore words lines front = (front ≡ lines_before words lines) ⊎ (front ≡ lines_before words lines ++ [] ∷ [])
