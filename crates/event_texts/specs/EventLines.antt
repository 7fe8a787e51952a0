-- Which lines of a text are a network's, and which event a line is.
use Rattle.std.specs.Prelude.{ℕ, Bool, if◌then◌else◌, Option, Some, None, option_map, List, [], ◌∷◌, codes}
use Rattle.std.specs.Str.{bytes_eq}
use Rattle.dimacs_col.specs.Lines.{Line}
use Rattle.dimacs_col.specs.State.{kept_number}
use Rattle.dimacs_col.specs.Split.{AreLinesBefore, begins, is_one_of, lines_before}
use Rattle.event_rule.specs.declared.event.Event.{Event}
use Rattle.event_rule.specs.declared.event.Event.TheVariants.{Pulse, Put, Take}

-- the words of events
abbrev pub event_words : List (List ℕ)
event_words = codes "pulse" ∷ codes "put" ∷ codes "take" ∷ []

abbrev pub is_event_word : List ℕ → Bool
is_event_word word = is_one_of word event_words

-- whether the first field of a line is one of them
abbrev pub begins_event : Line → Bool
begins_event line = begins event_words line

-- the lines before the first one whose first field is an event's word
abbrev pub network_lines : List Line → List Line
network_lines lines = lines_before event_words lines

-- these lines, perhaps with an empty line behind them, as after a last line feed
abbrev pub AreNetworkLines : List Line → List Line → Type 0
AreNetworkLines lines network = AreLinesBefore event_words lines network

-- the number of the only field; a number above 2^32 - 1 counts as that, which no vertex and no port has
abbrev pub one_number : Line → Option ℕ
one_number (field ∷ []) = kept_number field
one_number _ = None

abbrev pub both : Option ℕ → Option ℕ → Option (ℕ × ℕ)
both (Some a) (Some b) = Some (a, b)
both _ _ = None

-- the numbers of the only two fields
abbrev pub two_numbers : Line → Option (ℕ × ℕ)
two_numbers (first ∷ second ∷ []) = both (kept_number first) (kept_number second)
two_numbers _ = None

-- the event of a word and the fields behind it; each word is a line
abbrev pub event_with : List ℕ → Line → Option Event
event_with word fields =
    if bytes_eq word (codes "pulse") then option_map (λ v. Pulse v) (one_number fields)
    else if bytes_eq word (codes "put") then option_map (λ n. Put n.0 n.1) (two_numbers fields)
    else if bytes_eq word (codes "take") then option_map (λ n. Take n.0 n.1) (two_numbers fields)
    else None

-- the event that a line is
abbrev pub event_of : Line → Option Event
event_of [] = None
event_of (word ∷ fields) = event_with word fields
