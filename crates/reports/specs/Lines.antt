-- The lines that report faults.
use Rattle.std.specs.Prelude.{ℕ, List, [], ◌∷◌, ◌++◌, codes}
use Rattle.std.specs.Fmt.{decimal}
use Rattle.reports.specs.declared.report.Place.{Place}
use Rattle.reports.specs.declared.report.Place.TheVariants.{None, Line, Vertex, Vertices}

-- a code, and the line of the input that has the fault
abbrev pub at_line : List ℕ → ℕ → List ℕ
at_line code number = code ++ (codes " line " ++ decimal number)

-- a code, and the vertex that has the fault
abbrev pub at_vertex : List ℕ → ℕ → List ℕ
at_vertex code v = code ++ (codes " vertex " ++ decimal v)

-- a code, and the two vertices that have the fault
abbrev pub at_vertices : List ℕ → ℕ → ℕ → List ℕ
at_vertices code v w = code ++ (codes " vertices " ++ (decimal v ++ (codes " " ++ decimal w)))

-- a code, and the place that has the fault
abbrev pub at_place : List ℕ → Place → List ℕ
at_place code None = code
at_place code (Line number) = at_line code number
at_place code (Vertex v) = at_vertex code v
at_place code (Vertices v w) = at_vertices code v w

-- a line of a program: its name, the text, and LF
abbrev pub line_with : List ℕ → List ℕ → List ℕ
line_with name text = name ++ (codes ": " ++ (text ++ 10 ∷ []))
