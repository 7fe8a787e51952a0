-- The lines of a network text, and of the plan text that follows it.
use Rattle.std.specs.Prelude.{ℕ, List, [], ◌∷◌, codes}
use Rattle.dimacs_col.specs.Lines.{Line}
use Rattle.dimacs_col.specs.Split.{AreLinesBefore, lines_before, lines_from}

-- the word that a plan text begins with
abbrev pub plan_word : List (List ℕ)
plan_word = codes "plan" ∷ []

abbrev pub network_lines : List Line → List Line
network_lines lines = lines_before plan_word lines

abbrev pub plan_lines : List Line → List Line
plan_lines lines = lines_from plan_word lines

abbrev pub AreNetworkLines : List Line → List Line → Type 0
AreNetworkLines lines network = AreLinesBefore plan_word lines network
