-- Which entry a line is, for payloads that a word and a number say.
use Rattle.std.specs.Prelude.{ℕ, ◌^◌, Bool, true, Option, Some, None, option_and_then, option_map, nat_le, nat_lt}
use Rattle.std.specs.Prelude.{List, [], ◌∷◌, ◌&&◌, codes, if◌then◌else◌}
use Rattle.std.specs.Str.{bytes_eq, is_utf8}
use Rattle.dimacs_col.specs.Lines.{Line, number_of, small_number}
use Rattle.number_rows.specs.Names.{is_name}
use Rattle.wires.specs.declared.wire.Wire.{Wire}
use Rattle.wires.specs.declared.wire.Wire.TheVariants.{Payload, Ack, Safe, Close}
use Rattle.entries.specs.declared.entry.Entry.{Entry}
use Rattle.entries.specs.declared.entry.Entry.TheVariants.{Pulse, Put, Take}
use Rattle.entries.specs.Rows.{stamped_row, vertex_row}
use Rattle.entries.specs.declared.rows.Row.{Row}
use Rattle.entries.specs.declared.rows.StampedRow.{StampedRow}

-- the number that a field spells, if it is below 2^128
abbrev pub wide_number : List ℕ → Option ℕ
wide_number field = option_and_then (λ n. if nat_lt n (2 ^ 128) then Some n else None) (number_of field)

-- the number that a field spells, if it is below 2^64
abbrev pub stamp_number : List ℕ → Option ℕ
stamp_number field = option_and_then (λ n. if nat_lt n (2 ^ 64) then Some n else None) (number_of field)

-- a value, if no field is left
abbrev pub only : {A : Type 0} → Line → A → Option A
only [] value = Some value
only (field ∷ fields) value = None

-- a value of the next field, and of those behind it
abbrev pub with_next : {A : Type 0} → (List ℕ → Line → Option A) → Line → Option A
with_next f [] = None
with_next f (field ∷ fields) = f field fields

-- a value of a number of the next field, and of the fields behind it
abbrev pub with_number : {A : Type 0} → (ℕ → Line → Option A) → Line → Option A
with_number f fields = with_next (λ field others. option_and_then (λ n. f n others) (small_number field)) fields

module _ {M : Type 0} (payload_of : List ℕ → ℕ → Option M) where
  -- the payload that a word says, which is text, and a number
  abbrev pub payload_with : List ℕ → ℕ → Option M
  payload_with word number = if is_utf8 word then payload_of word number else None

  -- the payload of a word and a number, the only fields
  abbrev pub payload_in : Line → Option M
  payload_in fields = with_next (λ word others. with_next (λ field rest.
      option_and_then (λ number. option_and_then (only rest) (payload_with word number)) (wide_number field)) others)
      fields

  -- the wire of a word and a pulse, and of the fields behind them
  abbrev pub wire_with : List ℕ → ℕ → Line → Option (Wire M)
  wire_with word pulse fields =
      if bytes_eq word (codes "payload") then option_map (λ x. Payload pulse x) (payload_in fields)
      else if bytes_eq word (codes "ack") then only fields (Ack pulse)
      else if bytes_eq word (codes "safe") then only fields (Safe pulse)
      else None

  -- the wire of a word, and of a pulse and the fields behind it
  abbrev pub pulsed_wire : List ℕ → Line → Option (Wire M)
  pulsed_wire word fields = with_number (wire_with word) fields

  -- `close`, or a word and a pulse
  abbrev pub wire_of : Line → Option (Wire M)
  wire_of fields = with_next (λ word others.
      if bytes_eq word (codes "close") then only others Close else pulsed_wire word others) fields

  -- the entry of a word and a number, and of the fields behind them
  abbrev pub entry_with : List ℕ → ℕ → Line → Option (Entry M)
  entry_with word number fields =
      if bytes_eq word (codes "pulse") then only fields (Pulse number)
      else if bytes_eq word (codes "put") then option_map (λ wire. Put number wire) (wire_of fields)
      else if bytes_eq word (codes "take") then option_map (λ wire. Take number wire) (wire_of fields)
      else None

  abbrev pub entry_of : Line → Option (Entry M)
  entry_of fields = with_next (λ word others. with_number (entry_with word) others) fields

  -- the row of a vertex and an entry that a line is
  abbrev pub row_with : {R : Type 0} → (ℕ → Entry M → R) → Line → Option R
  row_with made line = with_number (λ v others. option_map (λ entry. made v entry) (entry_of others)) line

  -- the vertex and the entry that a line is
  abbrev pub row_of : Line → Option (Row M)
  row_of line = row_with (λ v entry. vertex_row v entry) line

  -- the stamp, the vertex and the entry that a line is
  abbrev pub stamped_row_of : Line → Option (StampedRow M)
  stamped_row_of line = with_next (λ field others.
      option_and_then (λ stamp. row_with (λ v entry. stamped_row stamp v entry) others) (stamp_number field)) line

-- the fields behind those of an edition: in edition 3 there is the name of a program first
abbrev pub behind_name : List ℕ → Line → Option Line
behind_name edition fields = if bytes_eq edition (codes "3")
    then with_next (λ name others. if is_name name then Some others else None) fields else Some fields

-- how many nodes these fields say that there are
abbrev pub nodes_in : List ℕ → Line → Option ℕ
nodes_in edition fields =
    option_and_then (λ others. with_number (λ nodes left. only left nodes) others) (behind_name edition fields)

-- how many nodes the first line says that there are: it is `transcript EDITION NODES`, or in edition 3
-- `transcript 3 NAME NODES`
abbrev pub header_of : List ℕ → Line → Option ℕ
header_of edition line = with_next (λ first others. with_next (λ second rest.
    if bytes_eq first (codes "transcript") && bytes_eq second edition then nodes_in edition rest else None) others) line

-- the name in a first line of edition 3
abbrev pub name_in : Line → Option (List ℕ)
name_in line = with_next (λ first others. with_next (λ second rest.
    if bytes_eq first (codes "transcript") && bytes_eq second (codes "3")
    then with_next (λ name left. if is_name name then Some name else None) rest else None) others) line
