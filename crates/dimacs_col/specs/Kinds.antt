-- What the first field of a line says of it.
use Rattle.std.specs.Prelude.{ℕ, Bool, true, false, List, [], ◌∷◌, ◌==◌, ◌||◌, if◌then◌else◌, codes}
use Rattle.std.specs.Str.{bytes_eq}
use Rattle.dimacs_col.specs.Lines.{Line}
use Rattle.dimacs_col.specs.declared.kind.Kind.{Kind}
use Rattle.dimacs_col.specs.declared.kind.Kind.TheVariants.{Skipped, Problem, Edge, Identifier, Bar, Unknown}

-- the words that a line can begin with
abbrev pub words : List (List ℕ × Kind)
words =
    (codes "p", Problem)
    ∷ (codes "e", Edge)
    ∷ (codes "i", Identifier)
    ∷ (codes "b", Bar)
    ∷ (codes "n", Skipped)
    ∷ (codes "d", Skipped)
    ∷ (codes "v", Skipped)
    ∷ (codes "x", Skipped)
    ∷ []

abbrev pub kind_among : List (List ℕ × Kind) → List ℕ → Kind
kind_among [] first = Unknown
kind_among (row ∷ rows) first = if bytes_eq first row.0 then row.1 else kind_among rows first

-- a comment is a line whose first field begins with the letter c
abbrev pub is_comment : List ℕ → Bool
is_comment [] = false
is_comment (byte ∷ _) = byte == 99

unfoldable pub kind_of_word : List ℕ → Kind
kind_of_word first = if is_comment first then Skipped else kind_among words first

-- a line without a field is skipped
abbrev pub kind_of : Line → Kind
kind_of [] = Skipped
kind_of (first ∷ _) = kind_of_word first

abbrev pub is_problem_kind : Kind → Bool
is_problem_kind Problem = true
is_problem_kind _ = false

abbrev pub is_edge_kind : Kind → Bool
is_edge_kind Edge = true
is_edge_kind _ = false

abbrev pub is_identifier_kind : Kind → Bool
is_identifier_kind Identifier = true
is_identifier_kind _ = false

abbrev pub is_bar_kind : Kind → Bool
is_bar_kind Bar = true
is_bar_kind _ = false

-- the FORMAT of a problem line
unfoldable pub is_format : List ℕ → Bool
is_format word = bytes_eq word (codes "edge") || bytes_eq word (codes "edges") || bytes_eq word (codes "col")
