-- What a reader knows after one more identifier line, and what is told of one.
use Rattle.std.proofs.Common.{◌≡◌, ◌<◌, ◌≤◌, ◌++◌, ◌==◌, ◌⊎◌, inl, inr, ℕ, Bool, true, false, cond, Option, Some, None, List, [], ◌∷◌}
use Rattle.std.proofs.Common.{refl, sym, ◌∙◌, ap, not, subst}
use Rattle.std.specs.Option.{is_some}
use Rattle.std.specs.BTreeMap.{BTreeMap, get, is_at, Updates}
use Rattle.std.specs.Cmp.{unsigned_ties}
use Rattle.std.specs.Map.{lookup}
use Rattle.std.specs.Ordering.{nat_cmp}
use Rattle.std.specs.Set.{is_member}
use Rattle.std.proofs.lemmas.Bool.{cases_eq, eq-eqb, ne_eqb}
use Rattle.dimacs_col.specs.Lines.{Line, field_at, is_identifier, number_of}
use Rattle.dimacs_col.specs.Kinds.{kind_of_word}
use Rattle.dimacs_col.specs.Reading.{verdict, nodes_of, edges_of, first_of, has_id, id_in, ids_of, bars_of, number_after}
use Rattle.graph_limits.specs.Pairs.{same_pair, IsVertexOf}
use Rattle.dimacs_col.specs.State.{Knows, kept_number}
use Rattle.dimacs_col.specs.declared.reader.Reader.{Reader}
use Rattle.dimacs_col.specs.declared.fault.ColFault.TheVariants.{VertexRange, NumberRange, IdTwice}
use Rattle.dimacs_col.specs.declared.kind.Kind.TheVariants.{Identifier}
use Rattle.dimacs_col.proofs.Lists.{AllGood-push, nodes_of-same, edges_of-same, edge_count-same, ids_of-push, bars_of-same}
use Rattle.dimacs_col.proofs.Edges.{small-nodes}
use Rattle.dimacs_col.proofs.Verdicts.{verdict-identifier, inside-one, kept-from, kept-inside}

-- ---- what a list gives a vertex
lookup-by : (f g : ℕ → Bool) → ((k : ℕ) → f k ≡ g k) → (ids : List (ℕ × ℕ)) → lookup f ids ≡ lookup g ids
lookup-by f g same [] = refl
lookup-by f g same (e ∷ es) = rw (same e.0) (ap (cond (g e.0) (Some e.1)) (lookup-by f g same es))

-- the same as a map by vertex finds
pub id_in-at : (ids : List (ℕ × ℕ)) (v : ℕ) → id_in ids v ≡ lookup (is_at (nat_cmp v)) ids
id_in-at ids v = lookup-by (λ w. v == w) (is_at (nat_cmp v)) (λ w. unsigned_ties v w) ids

lookup-more : (f : ℕ → Bool) (ids more : List (ℕ × ℕ)) → lookup f ids ≡ None → lookup f (ids ++ more) ≡ lookup f more
lookup-more f [] more e = refl
lookup-more f (x ∷ xs) more e = more-by (f x.0) (λ rest. lookup-more f xs more rest) refl
  where
    more-by : (b : Bool) → (lookup f xs ≡ None → lookup f (xs ++ more) ≡ lookup f more) → f x.0 ≡ b → lookup f ((x ∷ xs) ++ more) ≡ lookup f more
    more-by true go t = let some : Some x.1 ≡ None = (rw t at e) in absurd cc
    more-by false go t = let rest : lookup f xs ≡ None = (rw t at e) in rw t (go rest)

lookup-found : (f : ℕ → Bool) (ids more : List (ℕ × ℕ)) (id : ℕ) → lookup f ids ≡ Some id → lookup f (ids ++ more) ≡ Some id
lookup-found f [] more id e = absurd cc
lookup-found f (x ∷ xs) more id e = found-by (f x.0) (λ rest. lookup-found f xs more id rest) refl
  where
    found-by : (b : Bool) → (lookup f xs ≡ Some id → lookup f (xs ++ more) ≡ Some id) → f x.0 ≡ b → lookup f ((x ∷ xs) ++ more) ≡ Some id
    found-by true go t = let some : Some x.1 ≡ Some id = (rw t at e) in rw t some
    found-by false go t = let rest : lookup f xs ≡ Some id = (rw t at e) in rw t (go rest)

-- one more, of a vertex that has none
pub id_in-here : (ids : List (ℕ × ℕ)) (v id : ℕ) → id_in ids v ≡ None → id_in (ids ++ (v, id) ∷ []) v ≡ Some id
id_in-here ids v id none = lookup-more (λ w. v == w) ids ((v, id) ∷ []) none ∙ rw (eq-eqb v v refl) refl

pub id_in-other : (ids : List (ℕ × ℕ)) (v id q : ℕ) → (q ≡ v → ⊥) → id_in (ids ++ (v, id) ∷ []) q ≡ id_in ids q
id_in-other ids v id q apart = other-by (id_in ids q) refl
  where
    other-by : (o : Option ℕ) → id_in ids q ≡ o → id_in (ids ++ (v, id) ∷ []) q ≡ id_in ids q
    other-by None o = lookup-more (λ w. q == w) ids ((v, id) ∷ []) o ∙ rw (ne_eqb q v apart) (sym o)
    other-by (Some n) o = lookup-found (λ w. q == w) ids ((v, id) ∷ []) n o ∙ sym o

-- ---- an `i` line whose vertex the reader keeps as v, and which has a number
pub record IsNamed (before : List Line) (word : List ℕ) (fields : Line) (r : Reader) (nodes v number : ℕ) : Type 0 where
  pub knows : Knows before r
  pub kind : kind_of_word word ≡ Identifier
  pub nodes_is : r.nodes ≡ Some nodes
  pub first : kept_number (field_at fields 0) ≡ Some v
  pub second : number_of (field_at fields 1) ≡ Some number

module _ (before : List Line) (word : List ℕ) (fields : Line) (r : Reader) (nodes v number : ℕ) (e : IsNamed before word fields r nodes v number) where
  -- the vertex is one of the network
  module _ (low : 0 < v) (high : v ≤ nodes) where
    vertex : number_of (field_at fields 0) ≡ Some v
    vertex =
        let small = small-nodes r.nodes nodes e.nodes_is e.knows.nodes_fit in
        let a = kept-from (field_at fields 0) v e.first in
        a.is ∙ ap Some (kept-inside nodes a.number v small a.kept_is high)

    told-by : (b c : Bool) → is_identifier number ≡ b → has_id before v ≡ c → verdict before (word ∷ fields)
        ≡ first_of ((false, VertexRange (number_after before)) ∷ (not b, NumberRange (number_after before)) ∷ (
          c,
          IdTwice (number_after before),
        ) ∷ [])
    told-by b c f g =
        verdict-identifier before word fields nodes v number false b c e.kind (sym e.knows.nodes_are ∙ e.nodes_is) vertex e.second
        (inside-one nodes v low high) f g

    -- one more vertex with an identifier
    named : edges_of ((word ∷ fields) ∷ []) ≡ []
    unfolding edges_of
    named = rw e.kind refl

    no-nodes : nodes_of ((word ∷ fields) ∷ []) ≡ None
    unfolding nodes_of
    no-nodes = rw e.kind refl

    no-bars : bars_of ((word ∷ fields) ∷ []) ≡ []
    unfolding bars_of
    no-bars = rw e.kind refl

    one-id : ids_of ((word ∷ fields) ∷ []) ≡ (v, number) ∷ []
    unfolding ids_of
    one-id = simp (e.kind, vertex, e.second)

    more : ids_of (before ++ (word ∷ fields) ∷ []) ≡ ids_of before ++ (v, number) ∷ []
    more = ids_of-push before (word ∷ fields) ∙ ap (λ xs. ids_of before ++ xs) one-id

    pub knows-named : (line : ℕ) (ids : BTreeMap ℕ ℕ) → is_identifier number ≡ true → get nat_cmp r.ids v ≡ None →
        Updates nat_cmp r.ids ids v (Some number) →
        Knows (before ++ (word ∷ fields) ∷ []) (record { line = line; nodes = r.nodes; ids = ids; edges = r.edges; bars = r.bars })
    knows-named line ids f new updates =
        let none : id_in (ids_of before) v ≡ None = sym (e.knows.ids_are v) ∙ new in record {
          good = AllGood-push before (word ∷ fields) e.knows.good (told-by true false f (ap is_some none));
          nodes_are = e.knows.nodes_are ∙ sym (nodes_of-same before (word ∷ fields) no-nodes);
          nodes_fit = e.knows.nodes_fit;
          ids_are = λ q. ids-by q none (cases_eq q v);
          ids_fit = λ q id h. fits-by q id (rw more at h) (cases_eq q v);
          edges_are = λ pair. e.knows.edges_are pair ∙ ap (λ xs. is_member same_pair xs pair) (sym (edges_of-same before (word ∷ fields) named));
          edges_few = rw (edge_count-same before (word ∷ fields) named) e.knows.edges_few;
          edges_fit = λ pair h. e.knows.edges_fit pair (rw (edges_of-same before (word ∷ fields) named) at h);
          bars_are = λ bar. e.knows.bars_are bar ∙ ap (λ xs. is_member same_pair xs bar) (sym (bars_of-same before (word ∷ fields) no-bars));
          bars_fit = λ bar h. e.knows.bars_fit bar (rw (bars_of-same before (word ∷ fields) no-bars) at h);
          bars_counted = e.knows.bars_counted;
        }
      where
        ids-by : (q : ℕ) → id_in (ids_of before) v ≡ None → (q ≡ v) ⊎ (q ≡ v → ⊥) → get nat_cmp ids q ≡ id_in (ids_of (before ++ (word ∷ fields) ∷ [])) q
        ids-by q none (inl same) = rw (same, more) (updates.1 ∙ sym (id_in-here (ids_of before) v number none))
        ids-by q none (inr apart) =
            updates.2 q (sym (unsigned_ties v q) ∙ ne_eqb v q (λ s. apart (sym s))) ∙ e.knows.ids_are q
            ∙ sym (id_in-other (ids_of before) v number q apart) ∙ ap (λ xs. id_in xs q) (sym more)

        fits-by : (q id : ℕ) → id_in (ids_of before ++ (v, number) ∷ []) q ≡ Some id → (q ≡ v) ⊎ (q ≡ v → ⊥) → IsVertexOf r.nodes q
        fits-by q id h (inl same) = rw same (subst (λ o. IsVertexOf o v) (sym e.nodes_is) (low, high))
        fits-by q id h (inr apart) = e.knows.ids_fit q id (sym (id_in-other (ids_of before) v number q apart) ∙ h)
