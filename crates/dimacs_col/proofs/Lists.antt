-- Good lines, their vertices and their edges, after one more line.
use Rattle.std.proofs.Common.{◌≡◌, ◌++◌, ◌⊎◌, inl, inr, ℕ, Bool, true, false, Option, Some, None, List, [], ◌∷◌, length, append-nil, refl, sym, ◌∙◌, ap, subst}
use Rattle.std.specs.List.Sorted.{IsStrictlySortedBy}
use Rattle.std.specs.Set.{distinct_count}
use Rattle.dimacs_col.specs.Lines.{Line, value_at}
use Rattle.dimacs_col.specs.Kinds.{kind_of, is_problem_kind, is_edge_kind, is_identifier_kind, is_bar_kind}
use Rattle.dimacs_col.specs.Reading.{AllGood, verdict, nodes_of, edges_of, edge_count, ids_of, bars_of}
use Rattle.graph_limits.specs.Pairs.{pair_cmp, same_pair}
use Rattle.dimacs_col.specs.Bag.{SameMembers}
use Rattle.dimacs_col.proofs.Members.{count-same, count-ascending}

-- ---- a line in a list that has one more at its end
pub last-or-before : (xs : List Line) (x : Line) (b : List Line) (l : Line) (a : List Line) → xs ++ x ∷ [] ≡ b ++ l ∷ a →
    ((xs ≡ b) × (x ≡ l)) ⊎ ((m : List Line) × (xs ≡ b ++ l ∷ m))
last-or-before [] x [] l a e = inl (refl, cc)
last-or-before [] x (y ∷ ys) l a e = let t : [] ≡ ys ++ l ∷ a = cc in absurd (no-empty ys l a t)
  where
    no-empty : (ys : List Line) (l : Line) (a : List Line) → [] ≡ ys ++ l ∷ a → ⊥
    no-empty [] l a e = cc
    no-empty (y ∷ ys) l a e = cc
last-or-before (z ∷ zs) x [] l a e = inr (zs, cc)
last-or-before (z ∷ zs) x (y ∷ ys) l a e =
    let h : z ≡ y = cc in
    let t : zs ++ x ∷ [] ≡ ys ++ l ∷ a = cc in
    elim (last-or-before zs x ys l a t) [ inl p ↦ inl (cc, p.1) | inr m ↦ inr (m.0, cc) ]

pub AllGood-none : AllGood []
AllGood-none [] line after e = absurd cc
AllGood-none (b ∷ bs) line after e = absurd cc

pub AllGood-push : (before : List Line) (line : Line) → AllGood before → verdict before line ≡ None → AllGood (before ++ line ∷ [])
AllGood-push before line good none b l a e =
    elim (last-or-before before line b l a e) [
      | inl p ↦ subst (λ x. verdict x l ≡ None) p.0 (subst (λ x. verdict before x ≡ None) p.1 none)
      | inr m ↦ good b l m.0 m.1
    ]

-- ---- vertices
pub nodes_of-push : (before : List Line) (line : Line) (nodes : Option ℕ) → nodes_of before ≡ None → nodes_of (line ∷ []) ≡ nodes →
    nodes_of (before ++ line ∷ []) ≡ nodes
unfolding nodes_of
nodes_of-push [] line nodes e h = h
nodes_of-push (b ∷ bs) line nodes e h = push-by (is_problem_kind (kind_of b)) refl (λ none. nodes_of-push bs line nodes none h)
  where
    push-by : (t : Bool) → is_problem_kind (kind_of b) ≡ t → (nodes_of bs ≡ None → nodes_of (bs ++ line ∷ []) ≡ nodes) →
        nodes_of (b ∷ (bs ++ line ∷ [])) ≡ nodes
    push-by true t more = let none : Some (value_at b 2) ≡ None = (rw t at e) in absurd cc
    push-by false t more = let none : nodes_of bs ≡ None = (rw t at e) in rw t (more none)

pub nodes_of-keep : (before : List Line) (line : Line) (nodes : ℕ) → nodes_of before ≡ Some nodes → nodes_of (before ++ line ∷ []) ≡ Some nodes
unfolding nodes_of
nodes_of-keep [] line nodes e = absurd cc
nodes_of-keep (b ∷ bs) line nodes e = keep-by (is_problem_kind (kind_of b)) refl (λ some. nodes_of-keep bs line nodes some)
  where
    keep-by : (t : Bool) → is_problem_kind (kind_of b) ≡ t → (nodes_of bs ≡ Some nodes → nodes_of (bs ++ line ∷ []) ≡ Some nodes) →
        nodes_of (b ∷ (bs ++ line ∷ [])) ≡ Some nodes
    keep-by true t more = let some : Some (value_at b 2) ≡ Some nodes = (rw t at e) in rw t some
    keep-by false t more = let some : nodes_of bs ≡ Some nodes = (rw t at e) in rw t (more some)

pub nodes_of-same : (before : List Line) (line : Line) → nodes_of (line ∷ []) ≡ None → nodes_of (before ++ line ∷ []) ≡ nodes_of before
nodes_of-same before line e = same-by (nodes_of before) refl
  where
    same-by : (o : Option ℕ) → nodes_of before ≡ o → nodes_of (before ++ line ∷ []) ≡ nodes_of before
    same-by None o = nodes_of-push before line None o e ∙ sym o
    same-by (Some n) o = nodes_of-keep before line n o ∙ sym o

-- ---- edges
pub edges_of-push : (before : List Line) (line : Line) → edges_of (before ++ line ∷ []) ≡ edges_of before ++ edges_of (line ∷ [])
unfolding edges_of
edges_of-push [] line = refl
edges_of-push (b ∷ bs) line = push-by (is_edge_kind (kind_of b)) refl (edges_of-push bs line)
  where
    push-by : (t : Bool) → is_edge_kind (kind_of b) ≡ t → edges_of (bs ++ line ∷ []) ≡ edges_of bs ++ edges_of (line ∷ []) →
        edges_of (b ∷ (bs ++ line ∷ [])) ≡ edges_of (b ∷ bs) ++ edges_of (line ∷ [])
    push-by true t more = simp (t, more)
    push-by false t more = simp (t, more)

pub edges_of-same : (before : List Line) (line : Line) → edges_of (line ∷ []) ≡ [] → edges_of (before ++ line ∷ []) ≡ edges_of before
edges_of-same before line none = rw (edges_of-push before line, none, append-nil) refl

-- ---- identifiers
pub ids_of-push : (before : List Line) (line : Line) → ids_of (before ++ line ∷ []) ≡ ids_of before ++ ids_of (line ∷ [])
unfolding ids_of
ids_of-push [] line = refl
ids_of-push (b ∷ bs) line = push-by (is_identifier_kind (kind_of b)) refl (ids_of-push bs line)
  where
    push-by : (t : Bool) → is_identifier_kind (kind_of b) ≡ t → ids_of (bs ++ line ∷ []) ≡ ids_of bs ++ ids_of (line ∷ []) →
        ids_of (b ∷ (bs ++ line ∷ [])) ≡ ids_of (b ∷ bs) ++ ids_of (line ∷ [])
    push-by true t more = simp (t, more)
    push-by false t more = simp (t, more)

pub ids_of-same : (before : List Line) (line : Line) → ids_of (line ∷ []) ≡ [] → ids_of (before ++ line ∷ []) ≡ ids_of before
ids_of-same before line none = rw (ids_of-push before line, none, append-nil) refl

-- ---- bars
pub bars_of-push : (before : List Line) (line : Line) → bars_of (before ++ line ∷ []) ≡ bars_of before ++ bars_of (line ∷ [])
unfolding bars_of
bars_of-push [] line = refl
bars_of-push (b ∷ bs) line = push-by (is_bar_kind (kind_of b)) refl (bars_of-push bs line)
  where
    push-by : (t : Bool) → is_bar_kind (kind_of b) ≡ t → bars_of (bs ++ line ∷ []) ≡ bars_of bs ++ bars_of (line ∷ []) →
        bars_of (b ∷ (bs ++ line ∷ [])) ≡ bars_of (b ∷ bs) ++ bars_of (line ∷ [])
    push-by true t more = simp (t, more)
    push-by false t more = simp (t, more)

pub bars_of-same : (before : List Line) (line : Line) → bars_of (line ∷ []) ≡ [] → bars_of (before ++ line ∷ []) ≡ bars_of before
bars_of-same before line none = rw (bars_of-push before line, none, append-nil) refl

-- ---- how many edges
pub edge_count-same : (before : List Line) (line : Line) → edges_of (line ∷ []) ≡ [] → edge_count (before ++ line ∷ []) ≡ edge_count before
unfolding edge_count
edge_count-same before line none = ap (distinct_count same_pair) (edges_of-same before line none)

-- what a list with the same members says of the count
pub edge_count-of : (xs : List (ℕ × ℕ)) (lines : List Line) → SameMembers xs (edges_of lines) → distinct_count same_pair xs ≡ edge_count lines
unfolding edge_count
edge_count-of xs lines same = count-same xs (edges_of lines) same

pub edge_count-is : (keys : List (ℕ × ℕ)) (lines : List Line) → IsStrictlySortedBy pair_cmp keys → SameMembers keys (edges_of lines) →
    length keys ≡ edge_count lines
unfolding edge_count
edge_count-is keys lines sorted same = count-ascending keys (edges_of lines) sorted same
