-- The reading of the events of a text, each with the number of its line.
use Rattle.std.specs.Prelude.{◌≡◌, ℕ, ◌+◌, Bool, false, true, not, if◌then◌else◌, Option, Some, None, option_map}
use Rattle.std.specs.Prelude.{Result, Ok, Err, List, [], ◌∷◌, ◌++◌, filter, map}
use Rattle.dimacs_col.specs.Kinds.{is_comment}
use Rattle.dimacs_col.specs.Lines.{Line}
use Rattle.event_rule.specs.declared.event.Event.{Event}
use Rattle.event_texts.specs.EventLines.{begins_event, event_of, is_event_word}

-- events, each behind the number of its line
abbrev pub Script : Type 0
Script = List (ℕ × Event)

-- a line that is passed over by its first word: before the first event one of the network, later a comment
abbrev pub is_passed_word : Script → List ℕ → Bool
is_passed_word [] word = not (is_event_word word)
is_passed_word (first ∷ others) word = is_comment word

-- a line that is passed over: also one without a field
abbrev pub is_passed : Script → Line → Bool
is_passed known [] = true
is_passed known (word ∷ words) = is_passed_word known word

-- the events up to line n, given those before it; `None` if the line is no event
unfoldable pub known_after : ℕ → Script → Line → Option Script
known_after n known line =
    if is_passed known line then Some known else option_map (λ event. known ++ (n, event) ∷ []) (event_of line)

-- the lines from line n on, after known events: all events, or the number of the first line that is none
unfoldable pub read_from : ℕ → Script → List Line → Result Script ℕ
read_from n known [] = Ok known
read_from n known (line ∷ lines) =
    elim (known_after n known line) [ None ↦ Err n | Some next ↦ read_from (n + 1) next lines ]

-- the events of a text, or the number of the first line that is none; lines count from 1, the network's too
abbrev pub script_of : List Line → Result Script ℕ
script_of lines = read_from 1 [] lines

-- the lines from line n on, each behind its number
abbrev pub numbered : ℕ → List Line → List (ℕ × Line)
numbered n [] = []
numbered n (line ∷ lines) = (n, line) ∷ numbered (n + 1) lines

-- those from the first one on that begins an event
abbrev pub from_first : List (ℕ × Line) → List (ℕ × Line)
from_first [] = []
from_first (row ∷ rows) = if begins_event row.1 then row ∷ rows else from_first rows

-- a line that is neither empty nor a comment
abbrev pub is_written : ℕ × Line → Bool
is_written (n, []) = false
is_written (n, word ∷ words) = not (is_comment word)

-- the lines of events: from the first one on, without empty ones and comments, each behind its number
abbrev pub event_lines : List Line → List (ℕ × Line)
event_lines lines = filter is_written (from_first (numbered 1 lines))

-- a numbered line as an event, if it is one
abbrev pub read_row : ℕ × Line → ℕ × Option Event
read_row row = (row.0, event_of row.1)

abbrev pub rows_of : Script → List (ℕ × Option Event)
rows_of script = map (λ row. (row.0, Some row.1)) script

-- the events are those of the event lines, in their order, each behind the number of its line
abbrev pub IsScript : List Line → Script → Type 0
IsScript lines script = map read_row (event_lines lines) ≡ rows_of script
