-- What a reader knows after one more line that is no edge, no identifier and no bar.
use Rattle.std.proofs.Common.{◌≡◌, ◌≤◌, ◌++◌, ℕ, Some, None, List, [], ◌∷◌, refl, sym, ◌∙◌, ap, subst}
use Rattle.std.specs.Set.{is_member}
use Rattle.dimacs_col.specs.Lines.{Line, number_of, field_at}
use Rattle.dimacs_col.specs.Kinds.{kind_of, kind_of_word}
use Rattle.dimacs_col.specs.Reading.{verdict, nodes_of, edges_of, id_in, ids_of, bars_of}
use Rattle.graph_limits.specs.Pairs.{same_pair, FitsIn, IsVertexOf}
use Rattle.graph_limits.specs.declared.limits.TheConstants.{MAX_NODES}
use Rattle.dimacs_col.specs.State.{Knows}
use Rattle.dimacs_col.specs.declared.reader.Reader.{Reader}
use Rattle.dimacs_col.specs.declared.kind.Kind.TheVariants.{Skipped, Problem}
use Rattle.dimacs_col.proofs.Lists.{AllGood-push, nodes_of-push, nodes_of-same, edges_of-same, edge_count-same, ids_of-same, bars_of-same}
use Rattle.dimacs_col.proofs.Verdicts.{verdict-skipped}

no-nodes : (line : Line) → kind_of line ≡ Skipped → nodes_of (line ∷ []) ≡ None
unfolding nodes_of
no-nodes line e = rw e refl

no-edges : (line : Line) → kind_of line ≡ Skipped → edges_of (line ∷ []) ≡ []
unfolding edges_of
no-edges line e = rw e refl

no-ids : (line : Line) → kind_of line ≡ Skipped → ids_of (line ∷ []) ≡ []
unfolding ids_of
no-ids line e = rw e refl

no-bars : (line : Line) → kind_of line ≡ Skipped → bars_of (line ∷ []) ≡ []
unfolding bars_of
no-bars line e = rw e refl

pub knows-skipped : (before : List Line) (line : Line) (r : Reader) (number : ℕ) → kind_of line ≡ Skipped → Knows before r →
    Knows (before ++ line ∷ []) (record { line = number; nodes = r.nodes; ids = r.ids; edges = r.edges; bars = r.bars })
knows-skipped before line r number e k = let none = no-edges line e in record {
  good = AllGood-push before line k.good (verdict-skipped before line e);
  nodes_are = k.nodes_are ∙ sym (nodes_of-same before line (no-nodes line e));
  nodes_fit = k.nodes_fit;
  ids_are = λ v. k.ids_are v ∙ ap (λ xs. id_in xs v) (sym (ids_of-same before line (no-ids line e)));
  ids_fit = λ v id h. k.ids_fit v id (rw (ids_of-same before line (no-ids line e)) at h);
  edges_are = λ pair. k.edges_are pair ∙ ap (λ xs. is_member same_pair xs pair) (sym (edges_of-same before line none));
  edges_few = rw (edge_count-same before line none) k.edges_few;
  edges_fit = λ pair h. k.edges_fit pair (rw (edges_of-same before line none) at h);
  bars_are = λ bar. k.bars_are bar ∙ ap (λ xs. is_member same_pair xs bar) (sym (bars_of-same before line (no-bars line e)));
  bars_fit = λ bar h. k.bars_fit bar (rw (bars_of-same before line (no-bars line e)) at h);
  bars_counted = k.bars_counted;
}

problem-nodes : (word : List ℕ) (fields : Line) (nodes : ℕ) → kind_of_word word ≡ Problem → number_of (field_at fields 1) ≡ Some nodes →
    nodes_of ((word ∷ fields) ∷ []) ≡ Some nodes
unfolding nodes_of
problem-nodes word fields nodes e n = rw (e, n) refl

problem-edges : (word : List ℕ) (fields : Line) → kind_of_word word ≡ Problem → edges_of ((word ∷ fields) ∷ []) ≡ []
unfolding edges_of
problem-edges word fields e = rw e refl

problem-ids : (word : List ℕ) (fields : Line) → kind_of_word word ≡ Problem → ids_of ((word ∷ fields) ∷ []) ≡ []
unfolding ids_of
problem-ids word fields e = rw e refl

problem-bars : (word : List ℕ) (fields : Line) → kind_of_word word ≡ Problem → bars_of ((word ∷ fields) ∷ []) ≡ []
unfolding bars_of
problem-bars word fields e = rw e refl

pub knows-problem : (before : List Line) (word : List ℕ) (fields : Line) (r : Reader) (number nodes : ℕ) → kind_of_word word ≡ Problem → Knows before r →
    r.nodes ≡ None → number_of (field_at fields 1) ≡ Some nodes → nodes ≤ MAX_NODES → verdict before (word ∷ fields) ≡ None →
    Knows (before ++ (word ∷ fields) ∷ []) (record { line = number; nodes = Some nodes; ids = r.ids; edges = r.edges; bars = r.bars })
knows-problem before word fields r number nodes e k none n small good = let same = problem-edges word fields e in record {
  good = AllGood-push before (word ∷ fields) k.good good;
  nodes_are = sym (nodes_of-push before (word ∷ fields) (Some nodes) (sym k.nodes_are ∙ none) (problem-nodes word fields nodes e n));
  nodes_fit = small;
  ids_are = λ v. k.ids_are v ∙ ap (λ xs. id_in xs v) (sym (ids_of-same before (word ∷ fields) (problem-ids word fields e)));
  ids_fit = λ v id h. absurd (subst (λ o. IsVertexOf o v) none (k.ids_fit v id (rw (ids_of-same before (word ∷ fields) (problem-ids word fields e)) at h)));
  edges_are = λ pair. k.edges_are pair ∙ ap (λ xs. is_member same_pair xs pair) (sym (edges_of-same before (word ∷ fields) same));
  edges_few = rw (edge_count-same before (word ∷ fields) same) k.edges_few;
  edges_fit = λ pair h. absurd (subst (λ o. FitsIn o pair) none (k.edges_fit pair (rw (edges_of-same before (word ∷ fields) same) at h)));
  bars_are = λ bar. k.bars_are bar ∙ ap (λ xs. is_member same_pair xs bar) (sym (bars_of-same before (word ∷ fields) (problem-bars word fields e)));
  bars_fit = λ bar h. absurd (subst (λ o. IsVertexOf o bar.0) none
      (k.bars_fit bar (rw (bars_of-same before (word ∷ fields) (problem-bars word fields e)) at h)).0);
  bars_counted = k.bars_counted;
}
