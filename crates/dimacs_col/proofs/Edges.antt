-- What a reader knows after one more edge line, and what is told of one.
use Rattle.std.proofs.Common.{◌≡◌, ◌<◌, ◌≤◌, ◌++◌, ◌==◌, ℕ, Bool, true, false, cond, Option, Some, None, List, [], ◌∷◌, min, max, refl, sym, ◌∙◌, ap, arith}
use Rattle.std.proofs.Common.{subst, nat_lt}
use Rattle.std.specs.Option.{IfSome}
use Rattle.std.specs.Set.{is_member, distinct_count}
use Rattle.std.proofs.lemmas.Bool.{ltb-false, ne_eqb}
use Rattle.dimacs_col.specs.Lines.{Line, number_of, field_at}
use Rattle.dimacs_col.specs.Kinds.{kind_of_word}
use Rattle.dimacs_col.specs.Reading.{verdict, nodes_of, edges_of, edge_count, first_of, id_in, ids_of, bars_of, number_after}
use Rattle.graph_limits.specs.Pairs.{same_pair, FitsIn}
use Rattle.graph_limits.specs.declared.limits.TheConstants.{MAX_NODES, MAX_EDGES}
use Rattle.dimacs_col.specs.Bag.{SameMembers}
use Rattle.dimacs_col.specs.State.{Knows, kept_number}
use Rattle.dimacs_col.specs.declared.reader.Reader.{Reader}
use Rattle.dimacs_col.specs.declared.fault.ColFault.TheVariants.{VertexRange, TooLarge}
use Rattle.dimacs_col.specs.declared.kind.Kind.TheVariants.{Edge}
use Rattle.dimacs_col.proofs.Lists.{AllGood-push, nodes_of-same, edges_of-push, edge_count-of, ids_of-same, bars_of-same}
use Rattle.dimacs_col.proofs.Members.{member-push, members-push}
use Rattle.graph_limits.proofs.Pairs.{same_pair-exact}
use Rattle.dimacs_col.proofs.Verdicts.{verdict-edge, outside-any, kept-from, kept-inside, inside}

edge-nodes : (word : List ℕ) (fields : Line) → kind_of_word word ≡ Edge → nodes_of ((word ∷ fields) ∷ []) ≡ None
unfolding nodes_of
edge-nodes word fields e = rw e refl

edge-edges : (word : List ℕ) (fields : Line) (m n : ℕ) → kind_of_word word ≡ Edge → number_of (field_at fields 0) ≡ Some m →
    number_of (field_at fields 1) ≡ Some n → edges_of ((word ∷ fields) ∷ []) ≡ (min m n, max m n) ∷ []
unfolding edges_of
edge-edges word fields m n e p q = simp (e, p, q)

edge-ids : (word : List ℕ) (fields : Line) → kind_of_word word ≡ Edge → ids_of ((word ∷ fields) ∷ []) ≡ []
unfolding ids_of
edge-ids word fields e = rw e refl

edge-bars : (word : List ℕ) (fields : Line) → kind_of_word word ≡ Edge → bars_of ((word ∷ fields) ∷ []) ≡ []
unfolding bars_of
edge-bars word fields e = rw e refl

-- ---- an `e` line whose numbers the reader keeps as v and w
pub record IsEdge (before : List Line) (word : List ℕ) (fields : Line) (r : Reader) (nodes v w : ℕ) : Type 0 where
  pub knows : Knows before r
  pub kind : kind_of_word word ≡ Edge
  pub nodes_is : r.nodes ≡ Some nodes
  pub first : kept_number (field_at fields 0) ≡ Some v
  pub second : kept_number (field_at fields 1) ≡ Some w

pub small-nodes : (o : Option ℕ) (nodes : ℕ) → o ≡ Some nodes → IfSome o (λ n. n ≤ MAX_NODES) → nodes ≤ MAX_NODES
small-nodes None nodes e h = absurd cc
small-nodes (Some n) nodes e h = let s : n ≡ nodes = cc in omega arith

pub told-range : (before : List Line) (word : List ℕ) (fields : Line) (r : Reader) (nodes v w : ℕ) → IsEdge before word fields r nodes v w →
    (0 < v → v ≤ nodes → 0 < w → w ≤ nodes → ⊥) → verdict before (word ∷ fields) ≡ Some (VertexRange (number_after before))
told-range before word fields r nodes v w e bad =
    let small = small-nodes r.nodes nodes e.nodes_is e.knows.nodes_fit in
    let a = kept-from (field_at fields 0) v e.first in
    let b = kept-from (field_at fields 1) w e.second in
    verdict-edge before word fields nodes a.number b.number true (a.number == b.number) (nat_lt MAX_EDGES (edge_count (before ++ (word ∷ fields) ∷ [])))
    e.kind (sym e.knows.nodes_are ∙ e.nodes_is) a.is b.is (outside-any nodes a.number b.number v w small a.kept_is b.kept_is bad) refl refl

-- a pair in range whose ends differ, in the set that the reader then has
pub record IsPut (before : List Line) (word : List ℕ) (fields : Line) (r : Reader) (nodes v w : ℕ) (edges : List (ℕ × ℕ)) : Type 0 where
  pub edge : IsEdge before word fields r nodes v w
  pub first_low : 0 < v
  pub first_high : v ≤ nodes
  pub second_low : 0 < w
  pub second_high : w ≤ nodes
  pub apart : v ≡ w → ⊥
  pub members : SameMembers edges (r.edges ++ (min v w, max v w) ∷ [])

-- the two numbers are the vertices that the reader kept
record IsRead (before : List Line) (word : List ℕ) (fields : Line) (v w : ℕ) : Type 0 where
  first : number_of (field_at fields 0) ≡ Some v
  second : number_of (field_at fields 1) ≡ Some w
  pairs : edges_of (before ++ (word ∷ fields) ∷ []) ≡ edges_of before ++ (min v w, max v w) ∷ []

put-read : (before : List Line) (word : List ℕ) (fields : Line) (r : Reader) (nodes v w : ℕ) (edges : List (ℕ × ℕ)) →
    IsPut before word fields r nodes v w edges → IsRead before word fields v w
put-read before word fields r nodes v w edges p =
    let small = small-nodes r.nodes nodes p.edge.nodes_is p.edge.knows.nodes_fit in
    let a = kept-from (field_at fields 0) v p.edge.first in
    let b = kept-from (field_at fields 1) w p.edge.second in
    let first = a.is ∙ ap Some (kept-inside nodes a.number v small a.kept_is p.first_high) in
    let second = b.is ∙ ap Some (kept-inside nodes b.number w small b.kept_is p.second_high) in record {
      first = first;
      second = second;
      pairs = edges_of-push before (word ∷ fields) ∙ ap (λ xs. edges_of before ++ xs) (edge-edges word fields v w p.edge.kind first second);
    }

put-members : (before : List Line) (word : List ℕ) (fields : Line) (r : Reader) (nodes v w : ℕ) (edges : List (ℕ × ℕ)) →
    IsPut before word fields r nodes v w edges → SameMembers edges (edges_of (before ++ (word ∷ fields) ∷ []))
put-members before word fields r nodes v w edges p pair =
    p.members pair
    ∙ members-push r.edges (edges_of before) (min v w, max v w) p.edge.knows.edges_are pair
    ∙ ap (λ xs. is_member same_pair xs pair) (sym (put-read before word fields r nodes v w edges p).pairs)

either-fits : (b x : Bool) (P : Type 0) → cond b true x ≡ true → (b ≡ true → P) → (x ≡ true → P) → P
either-fits true x P e f g = f refl
either-fits false x P e f g = g e

pair-fits : (nodes v w : ℕ) → 0 < v → v ≤ nodes → 0 < w → w ≤ nodes → (v ≡ w → ⊥) → FitsIn (Some nodes) (min v w, max v w)
pair-fits nodes v w a b c d e = (grind arith, grind arith, grind arith)

-- the pairs are within the limits
put-fits : (before : List Line) (word : List ℕ) (fields : Line) (r : Reader) (nodes v w : ℕ) (edges : List (ℕ × ℕ)) →
    IsPut before word fields r nodes v w edges → (pair : ℕ × ℕ) → is_member same_pair (edges_of (before ++ (word ∷ fields) ∷ [])) pair ≡ true →
    FitsIn r.nodes pair
put-fits before word fields r nodes v w edges p pair h =
    let known = sym (member-push (edges_of before) (min v w, max v w) pair) ∙
    ap (λ xs. is_member same_pair xs pair) (sym (put-read before word fields r nodes v w edges p).pairs) ∙ h in
    let fits = pair-fits nodes v w p.first_low p.first_high p.second_low p.second_high p.apart in
    either-fits (same_pair (min v w, max v w) pair) (is_member same_pair (edges_of before) pair) (FitsIn r.nodes pair) known
    (λ e. subst (λ o. FitsIn o pair) (sym p.edge.nodes_is) (subst (λ q. FitsIn (Some nodes) q) (same_pair-exact (min v w, max v w) pair e) fits))
    (λ e. p.edge.knows.edges_fit pair e)

put-verdict : (before : List Line) (word : List ℕ) (fields : Line) (r : Reader) (nodes v w : ℕ) (edges : List (ℕ × ℕ)) (large : Bool) →
    IsPut before word fields r nodes v w edges → nat_lt MAX_EDGES (distinct_count same_pair edges) ≡ large →
    verdict before (word ∷ fields) ≡ first_of ((large, TooLarge (number_after before)) ∷ [])
put-verdict before word fields r nodes v w edges large p e =
    let read = put-read before word fields r nodes v w edges p in
    let count = edge_count-of edges (before ++ (word ∷ fields) ∷ []) (put-members before word fields r nodes v w edges p) in
    verdict-edge before word fields nodes v w false false large p.edge.kind (sym p.edge.knows.nodes_are ∙
    p.edge.nodes_is) read.first read.second (inside nodes v w p.first_low p.first_high p.second_low p.second_high) (ne_eqb v w p.apart)
    (ap (nat_lt MAX_EDGES) (sym count) ∙ e)

pub told-large : (before : List Line) (word : List ℕ) (fields : Line) (r : Reader) (nodes v w : ℕ) (edges : List (ℕ × ℕ)) →
    IsPut before word fields r nodes v w edges → nat_lt MAX_EDGES (distinct_count same_pair edges) ≡ true →
    verdict before (word ∷ fields) ≡ Some (TooLarge (number_after before))
told-large before word fields r nodes v w edges p h = put-verdict before word fields r nodes v w edges true p h

pub knows-put : (before : List Line) (word : List ℕ) (fields : Line) (r : Reader) (number nodes v w : ℕ) (edges : List (ℕ × ℕ)) →
    IsPut before word fields r nodes v w edges → nat_lt MAX_EDGES (distinct_count same_pair edges) ≡ false →
    Knows (before ++ (word ∷ fields) ∷ []) (record { line = number; nodes = r.nodes; ids = r.ids; edges = edges; bars = r.bars })
knows-put before word fields r number nodes v w edges p h =
    let same = put-members before word fields r nodes v w edges p in record {
      good = AllGood-push before (word ∷ fields) p.edge.knows.good (put-verdict before word fields r nodes v w edges false p h);
      nodes_are = p.edge.knows.nodes_are ∙ sym (nodes_of-same before (word ∷ fields) (edge-nodes word fields p.edge.kind));
      nodes_fit = p.edge.knows.nodes_fit;
      ids_are = λ v. p.edge.knows.ids_are v ∙ ap (λ xs. id_in xs v) (sym (ids_of-same before (word ∷ fields) (edge-ids word fields p.edge.kind)));
      ids_fit = λ v id h. p.edge.knows.ids_fit v id (rw (ids_of-same before (word ∷ fields) (edge-ids word fields p.edge.kind)) at h);
      edges_are = same;
      edges_few = ltb-false MAX_EDGES (edge_count (before ++ (word ∷ fields) ∷ []))
          (ap (nat_lt MAX_EDGES) (sym (edge_count-of edges (before ++ (word ∷ fields) ∷ []) same)) ∙ h);
      edges_fit = put-fits before word fields r nodes v w edges p;
      bars_are = λ bar. p.edge.knows.bars_are bar
          ∙ ap (λ xs. is_member same_pair xs bar) (sym (bars_of-same before (word ∷ fields) (edge-bars word fields p.edge.kind)));
      bars_fit = λ bar h. p.edge.knows.bars_fit bar (rw (bars_of-same before (word ∷ fields) (edge-bars word fields p.edge.kind)) at h);
      bars_counted = p.edge.knows.bars_counted;
    }
