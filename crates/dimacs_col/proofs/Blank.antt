-- An empty line behind the lines of a network text says nothing.
use Rattle.std.proofs.Common.{◌≡◌, ◌↔◌, ◌++◌, ◌∷◌, [], inl, inr, ◌∙◌, ℕ, Some, None, List, append_assoc, ap, refl, subst, sym}
use Rattle.std.specs.List.{Contains}
use Rattle.dimacs_col.specs.Lines.{Line}
use Rattle.dimacs_col.specs.Reading.{AllGood, Graph, IsFault, IsFirstFault, IsGraph, bars_of, edges_of, id_in, ids_of, nodes_of, verdict}
use Rattle.dimacs_col.specs.declared.fault.ColFault.{ColFault}
use Rattle.dimacs_col.specs.declared.fault.ColFault.TheVariants.{NoProblem, SecondProblem, EdgeBeforeProblem, BadField, VertexRange, SelfLoop, TooLarge}
use Rattle.dimacs_col.specs.declared.fault.ColFault.TheVariants.{UnknownLine, EarlyLine, NumberRange, IdTwice, ChannelRange, TooManyBars, Memory}
use Rattle.dimacs_col.proofs.Lists.{bars_of-same, edges_of-same, ids_of-same, last-or-before, nodes_of-same}
use Rattle.dimacs_col.proofs.Verdicts.{verdict-skipped}
use Rattle.dimacs_col.specs.Split.{AreLinesBefore, lines_before}

no-nodes : nodes_of ([] ∷ []) ≡ None
unfolding nodes_of
no-nodes = refl

no-edges : edges_of ([] ∷ []) ≡ []
unfolding edges_of
no-edges = refl

no-ids : ids_of ([] ∷ []) ≡ []
unfolding ids_of
no-ids = refl

no-bars : bars_of ([] ∷ []) ≡ []
unfolding bars_of
no-bars = refl

good-front : (lines : List Line) → AllGood (lines ++ [] ∷ []) → AllGood lines
good-front lines good before line after e = good before line (after ++ [] ∷ []) (ap (λ ls. ls ++ [] ∷ []) e ∙ append_assoc before (line ∷ after) ([] ∷ []))

pub graph-front : (lines : List Line) (graph : Graph) → IsGraph (lines ++ [] ∷ []) graph → IsGraph lines graph
graph-front lines graph is = record {
  good = good-front lines is.good;
  nodes_are = sym (nodes_of-same lines [] no-nodes) ∙ is.nodes_are;
  ids_ascend = is.ids_ascend;
  ids_are = λ v. is.ids_are v ∙ ap (λ ids. id_in ids v) (ids_of-same lines [] no-ids);
  edges_ascend = is.edges_ascend;
  edges_are = λ pair. subst (λ es. Contains graph.edges pair ↔ Contains es pair) (edges_of-same lines [] no-edges) (is.edges_are pair);
  bars_ascend = is.bars_ascend;
  bars_are = λ bar. subst (λ bs. Contains graph.bars bar ↔ Contains bs bar) (bars_of-same lines [] no-bars) (is.bars_are bar);
}

first-front : (lines : List Line) (fault : ColFault) → IsFirstFault (lines ++ [] ∷ []) fault → IsFirstFault lines fault
first-front lines fault is = elim (last-or-before lines [] is.before is.line is.after is.place) [
  | inl p ↦
      let skipped : verdict is.before is.line ≡ None = ap (verdict is.before) (sym p.1) ∙ verdict-skipped is.before [] refl in
      let wrong : Some fault ≡ None = sym is.told ∙ skipped in absurd cc
  | inr m ↦ record { before = is.before; line = is.line; after = m.0; place = m.1; good = is.good; told = is.told }
]

pub fault-front : (lines : List Line) (fault : ColFault) → IsFault (lines ++ [] ∷ []) fault → IsFault lines fault
fault-front lines Memory is = tt
fault-front lines NoProblem is = (good-front lines is.0, sym (nodes_of-same lines [] no-nodes) ∙ is.1)
fault-front lines (SecondProblem n) is = first-front lines (SecondProblem n) is
fault-front lines (EdgeBeforeProblem n) is = first-front lines (EdgeBeforeProblem n) is
fault-front lines (BadField n) is = first-front lines (BadField n) is
fault-front lines (VertexRange n) is = first-front lines (VertexRange n) is
fault-front lines (SelfLoop n) is = first-front lines (SelfLoop n) is
fault-front lines (TooLarge n) is = first-front lines (TooLarge n) is
fault-front lines (UnknownLine n) is = first-front lines (UnknownLine n) is
fault-front lines (EarlyLine n) is = first-front lines (EarlyLine n) is
fault-front lines (NumberRange n) is = first-front lines (NumberRange n) is
fault-front lines (IdTwice n) is = first-front lines (IdTwice n) is
fault-front lines (ChannelRange n) is = first-front lines (ChannelRange n) is
fault-front lines (TooManyBars n) is = first-front lines (TooManyBars n) is

-- the same of the lines before a text that begins with one of some words
pub graph-of : (words : List (List ℕ)) (lines network : List Line) (graph : Graph) → AreLinesBefore words lines network →
    IsGraph network graph → IsGraph (lines_before words lines) graph
graph-of words lines network graph (inl same) is = subst (λ ls. IsGraph ls graph) same is
graph-of words lines network graph (inr more) is = graph-front (lines_before words lines) graph (subst (λ ls. IsGraph ls graph) more is)

pub fault-of : (words : List (List ℕ)) (lines network : List Line) (fault : ColFault) → AreLinesBefore words lines network → IsFault network fault →
    IsFault (lines_before words lines) fault
fault-of words lines network fault (inl same) is = subst (λ ls. IsFault ls fault) same is
fault-of words lines network fault (inr more) is = fault-front (lines_before words lines) fault (subst (λ ls. IsFault ls fault) more is)
