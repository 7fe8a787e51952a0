-- How a text is cut into lines and a line into fields, and which number a field is.
use Rattle.std.specs.Prelude.{ℕ, ◌^◌, Bool, true, false, nat_lt, not, ◌==◌, ◌&&◌, ◌||◌, if◌then◌else◌, List, [], ◌∷◌}
use Rattle.std.specs.Prelude.{map, filter, length}
use Rattle.std.specs.Prelude.{Option, Some, None, is_none, option_and_then, unwrap_or}
use Rattle.std.specs.List.{slice_split, slice_index_or}
use Rattle.std.specs.Str.{all_ascii_digits}
use Rattle.std.specs.Str.Lines.{strip_carriage_return}
use Rattle.std.specs.Str.Parse.{digits_value}
use Rattle.graph_limits.specs.declared.limits.TheConstants.{IDENTIFIER_DIGITS, MAX_CHANNEL}
use Rattle.dimacs_col.specs.declared.fields.IdentifierField.{IdentifierField}
use Rattle.dimacs_col.specs.declared.fields.IdentifierField.TheVariants.{NoNumber, TooGreat, Value}

-- a line is the list of its fields, each a list of bytes
abbrev pub Line : Type 0
Line = List (List ℕ)

-- whether a line has a field
abbrev pub has_fields : Line → Bool
has_fields [] = false
has_fields (word ∷ words) = true

-- fields are parted by spaces and tabs
abbrev pub is_blank : ℕ → Bool
is_blank byte = byte == 32 || byte == 9

abbrev pub is_part : ℕ → Bool
is_part byte = not (is_blank byte)

-- between two blanks side by side there is no field
abbrev pub is_field : List ℕ → Bool
is_field part = nat_lt 0 (length part)

unfoldable pub fields_of : List ℕ → Line
fields_of bytes = filter is_field (slice_split is_blank bytes)

-- one carriage return at the end of a line is dropped
abbrev pub line_of : List ℕ → Line
line_of bytes = fields_of (strip_carriage_return bytes)

-- a line ends at a line feed or at the end of the text
unfoldable pub lines_of : List ℕ → List Line
lines_of text = map line_of (slice_split (λ byte. byte == 10) text)

-- the number that a field spells, if it is one or more digits
unfoldable pub number_of : List ℕ → Option ℕ
number_of field =
    if is_field field then (if all_ascii_digits field then Some (digits_value 10 field) else None) else None

-- the number that a field spells, where it is below 2^32
abbrev pub small_number : List ℕ → Option ℕ
small_number field = option_and_then (λ n. if nat_lt n (2 ^ 32) then Some n else None) (number_of field)

-- whether a number has at most so many binary digits as an identifier
abbrev pub is_identifier : ℕ → Bool
is_identifier n = nat_lt n (2 ^ IDENTIFIER_DIGITS)

-- whether a number is a channel that can be barred
abbrev pub is_channel : ℕ → Bool
is_channel n = nat_lt 0 n && not (nat_lt MAX_CHANNEL n)

-- a number that is an identifier
abbrev pub fitting : ℕ → Option ℕ
fitting n = if is_identifier n then Some n else None

-- the identifier that a field spells
abbrev pub wide_number : List ℕ → Option ℕ
wide_number field = option_and_then fitting (number_of field)

-- what the number of a field says of an identifier
abbrev pub identifier_of : Option ℕ → IdentifierField
identifier_of None = NoNumber
identifier_of (Some n) = if is_identifier n then Value n else TooGreat

abbrev pub identifier_in : List ℕ → IdentifierField
identifier_in field = identifier_of (number_of field)

-- the field at a place of a line, counted from 0; if it is missing, the empty one, which is no number
abbrev pub field_at : Line → ℕ → List ℕ
field_at line place = slice_index_or line place []

abbrev pub number_at : Line → ℕ → Option ℕ
number_at line place = number_of (field_at line place)

abbrev pub no_number_at : Line → ℕ → Bool
no_number_at line place = is_none (number_at line place)

-- the number at a place, if there is one
abbrev pub value_at : Line → ℕ → ℕ
value_at line place = unwrap_or (number_at line place) 0
