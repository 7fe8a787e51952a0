-- The reading of a plan text: the line `plan`, and then a row a line.
use Rattle.std.specs.Prelude.{ℕ, ◌+◌, ◌≡◌, Bool, false, Option, Some, None, Result, Ok, Err, List, [], ◌∷◌}
use Rattle.std.specs.Prelude.{◌++◌, ◌==◌, if◌then◌else◌, codes, filter, map, option_map}
use Rattle.std.specs.Str.{bytes_eq}
use Rattle.dimacs_col.specs.Lines.{Line, has_fields, small_number}
use Rattle.channel_plan.specs.declared.plan.CheckFault.{CheckFault}
use Rattle.channel_plan.specs.declared.plan.CheckFault.TheVariants.{Memory, Syntax}

-- a row of a plan: a vertex, and its channel
abbrev pub Row : Type 0
Row = ℕ × ℕ

-- a channel is not 0
abbrev pub row_with : Option ℕ → Option ℕ → Option Row
row_with (Some v) (Some channel) = if channel == 0 then None else Some (v, channel)
row_with _ _ = None

-- the row that a line of two numbers is
abbrev pub row_of : Line → Option Row
row_of (first ∷ second ∷ []) = row_with (small_number first) (small_number second)
row_of _ = None

abbrev pub is_plan_word : List ℕ → Bool
is_plan_word word = bytes_eq word (codes "plan")

-- the line `plan` alone
abbrev pub is_header : Line → Bool
is_header (word ∷ []) = is_plan_word word
is_header _ = false

-- What is known after a line: the rows so far, or `None` before the line `plan`. A line without a field
-- changes nothing. The whole is `None` for a line that is wrong there.
unfoldable pub known_after : Option (List Row) → Line → Option (Option (List Row))
known_after known [] = Some known
known_after None (word ∷ words) = if is_header (word ∷ words) then Some (Some []) else None
known_after (Some rows) (word ∷ words) = option_map (λ row. Some (rows ++ row ∷ [])) (row_of (word ∷ words))

-- at the end of a text: its rows; line 1 is wrong where `plan` never came
abbrev pub read_at_end : Option (List Row) → Result (List Row) ℕ
read_at_end None = Err 1
read_at_end (Some rows) = Ok rows

-- the lines from line n on, after what is known: all rows, or the number of the first wrong line
unfoldable pub read_from : ℕ → Option (List Row) → List Line → Result (List Row) ℕ
read_from n known [] = read_at_end known
read_from n known (line ∷ lines) =
    elim (known_after known line) [ None ↦ Err n | Some next ↦ read_from (n + 1) next lines ]

-- the rows of a plan text, or the number of its first wrong line
abbrev pub reading_of : List Line → Result (List Row) ℕ
reading_of lines = read_from 1 None lines

-- the lines that have fields are the line `plan` and then these rows
pub record IsPlanText (lines : List Line) (rows : List Row) : Type 0 where
  pub body : List Line
  pub lines_are : filter has_fields lines ≡ (codes "plan" ∷ []) ∷ body
  pub rows_are : map row_of body ≡ map Some rows

-- the fault of lines that are no plan text: C6 with the first wrong line; that memory ran out says nothing of them
abbrev pub IsFaultOfReading : List Line → CheckFault → Type 0
IsFaultOfReading lines Memory = Unit {0}
IsFaultOfReading lines (Syntax n) = reading_of lines ≡ Err n
IsFaultOfReading lines _ = ⊥

-- the rows of the colours of vertices v, v + 1, ..: a channel is a colour plus one
abbrev pub rows_of : ℕ → List ℕ → List Row
rows_of v [] = []
rows_of v (colour ∷ colours) = (v, colour + 1) ∷ rows_of (v + 1) colours
