-- The lines of a text that a walk over them has still to come to.
use Rattle.std.specs.Prelude.{Option, Some, None, List, [], ℕ}
use Rattle.std.specs.Borrow.{Bor}
use Rattle.dimacs_col.specs.Lines.{Line, lines_of}

-- the lines of what is left of a text; none behind the last line
abbrev pub lines_in : Option (Bor (List ℕ)) → List Line
lines_in None = []
lines_in (Some text) = lines_of text.now
