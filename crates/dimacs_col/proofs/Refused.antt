-- What an error says, and the verdicts of lines that come before the problem line.
use Rattle.std.proofs.Common.{◌≡◌, ℕ, ◌∷◌, [], List, None, Some, drop, refl, sym, ap, ◌∙◌}
use Rattle.std.specs.Prelude.{Result, Ok, Err, IfErr, IfOk, slice_get}
use Rattle.std.specs.Result.{IsErrAnd}
use Rattle.dimacs_col.specs.Kinds.{kind_of_word}
use Rattle.dimacs_col.specs.Lines.{Line, fields_of}
use Rattle.dimacs_col.specs.Reading.{IsFault, nodes_of, number_after, verdict}
use Rattle.dimacs_col.specs.State.{Judged, Knows}
use Rattle.dimacs_col.specs.declared.fault.ColFault.{ColFault}
use Rattle.dimacs_col.specs.declared.fault.ColFault.TheVariants.{EarlyLine, EdgeBeforeProblem, Memory}
use Rattle.dimacs_col.specs.declared.kind.Kind.TheVariants.{Bar, Edge}
use Rattle.dimacs_col.specs.declared.reader.Reader.{Reader}

-- an error says nothing of a good answer
pub err_says : {X E : Type 0} (Q : E → Type 0) (P : X → Type 0) (r : Result X E) → IsErrAnd r Q → IfOk r P
err_says Q P (Ok x) is = absurd is
err_says Q P (Err e) is = tt

-- where memory ran out nothing is said of the lines
pub memory_says : {X : Type 0} (lines : List Line) (r : Result X ColFault) → IsErrAnd r (λ e. e ≡ Memory) → IfErr r (IsFault lines)
memory_says lines (Ok x) is = tt
memory_says lines (Err e) is = rw is tt

-- nor of the line that was read
pub memory_judged : (before : List Line) (line : Line) (reader : Reader) (r : Result (Unit {0}) ColFault) → IsErrAnd r (λ e. e ≡ Memory)
    → Judged before line reader r
memory_judged before line reader (Ok x) is = absurd is
memory_judged before line reader (Err e) is = rw is tt

-- the number of the line is nothing that a reader knows
pub knows_on : (before : List Line) (r : Reader) (number : ℕ) → Knows before r
    → Knows before (record { line = number; nodes = r.nodes; ids = r.ids; edges = r.edges; bars = r.bars })
knows_on before r number k = record {
  good = k.good;
  nodes_are = k.nodes_are;
  nodes_fit = k.nodes_fit;
  ids_are = k.ids_are;
  ids_fit = k.ids_fit;
  edges_are = k.edges_are;
  edges_few = k.edges_few;
  edges_fit = k.edges_fit;
  bars_are = k.bars_are;
  bars_fit = k.bars_fit;
  bars_counted = k.bars_counted;
}

-- a line is its first field and the others
first_and_others : (line : Line) (word : List ℕ) → slice_get line 0 ≡ Some word → line ≡ word ∷ drop 1 line
first_and_others [] word is = absurd cc
first_and_others (first ∷ others) word is = let same : first ≡ word = cc in ap (λ f. f ∷ others) same

-- and so are the fields of a text, once the first is taken
pub fields_are : (text : List ℕ) (all : Line) (word : List ℕ) (others : Line) → all ≡ fields_of text → slice_get (fields_of text) 0 ≡ Some word
    → others ≡ drop 1 all → fields_of text ≡ word ∷ others
fields_are text all word others of is rest =
    first_and_others (fields_of text) word is ∙ ap (λ fs. word ∷ fs) (sym (rest ∙ ap (drop 1) of))

-- lines before the problem line
module _ (before : List Line) (word : List ℕ) (fields : Line) (none : nodes_of before ≡ None) where
  pub edge_early : kind_of_word word ≡ Edge → verdict before (word ∷ fields) ≡ Some (EdgeBeforeProblem (number_after before))
  unfolding verdict
  edge_early kind = rw (kind, none) refl

  pub bar_early : kind_of_word word ≡ Bar → verdict before (word ∷ fields) ≡ Some (EarlyLine (number_after before))
  unfolding verdict
  bar_early kind = rw (kind, none) refl
