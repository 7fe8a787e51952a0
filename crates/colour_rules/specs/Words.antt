-- The text of a payload: a word for its kind, and its number.
use Rattle.std.specs.Prelude.{ℕ, ◌<◌, ◌^◌, ◌&&◌, if◌then◌else◌, nat_lt, nat_eq}
use Rattle.std.specs.Prelude.{List, codes, Option, Some, None}
use Rattle.std.specs.Cmp.Lexicographic.{pointwise}
use Rattle.cole_vishkin.specs.declared.step.TheConstants.{IDENTIFIER_DIGITS}
use Rattle.colour_rules.specs.declared.payload.Payload.{Payload}
use Rattle.colour_rules.specs.declared.payload.Payload.TheVariants.{Hello, Label, Colour, Chosen}

-- identifiers and the colours made of them have 128 binary digits, forests and chosen colours 16
abbrev pub IsPayload : Payload → Type 0
IsPayload (Hello id) = id < 2 ^ IDENTIFIER_DIGITS
IsPayload (Label forest) = forest < 2 ^ 16
IsPayload (Colour colour) = colour < 2 ^ IDENTIFIER_DIGITS
IsPayload (Chosen colour) = colour < 2 ^ 16

-- the word of its kind
abbrev pub word_in : Payload → List ℕ
word_in (Hello id) = codes "hello"
word_in (Label forest) = codes "label"
word_in (Colour colour) = codes "colour"
word_in (Chosen colour) = codes "chosen"

-- its number
abbrev pub number_in : Payload → ℕ
number_in (Hello id) = id
number_in (Label forest) = forest
number_in (Colour colour) = colour
number_in (Chosen colour) = colour

-- what a word and a number say: a number of so many binary digits, after its word
abbrev pub payload_from : List ℕ → ℕ → Option Payload
payload_from word number =
    if pointwise nat_eq word (codes "hello") && nat_lt number (2 ^ IDENTIFIER_DIGITS) then Some (Hello number)
    else if pointwise nat_eq word (codes "label") && nat_lt number (2 ^ 16) then Some (Label number)
    else if pointwise nat_eq word (codes "colour") && nat_lt number (2 ^ IDENTIFIER_DIGITS) then Some (Colour number)
    else if pointwise nat_eq word (codes "chosen") && nat_lt number (2 ^ 16) then Some (Chosen number)
    else None
