-- The set of bars after one more: how many bars each vertex has.
use Rattle.std.proofs.Common.{◌≡◌, ◌+◌, ◌<◌, inl, inr, Some, ◌++◌, ◌&&◌, ◌||◌, ℕ, Bool, true, false, cond}
use Rattle.std.proofs.Common.{List, [], ◌∷◌, not, nat_lt, refl, sym, ◌∙◌, ap, arith}
use Rattle.std.specs.List.{filter, count_by}
use Rattle.std.specs.List.Sorted.{IsStrictlySortedBy}
use Rattle.std.specs.BTreeSet.{insert_key, BTreeSet}
use Rattle.std.specs.Ordering.{is_eq, nat_cmp}
use Rattle.std.specs.Set.{is_member, distinct_count}
use Rattle.std.specs.declared.cmp.Ordering.{Ordering}
use Rattle.std.specs.declared.cmp.Ordering.TheVariants.{Less, Equal, Greater}
use Rattle.std.proofs.lemmas.List.Kept.{IsStrictlySortedBy-filter}
use Rattle.std.proofs.lemmas.List.Sums.{length-filter, sum_by-cons}
use Rattle.std.proofs.lemmas.Map.Made.{is_member-filter}
use Rattle.std.specs.BTreeMap.{BTreeMap, Updates}
use Rattle.std.specs.Cmp.{unsigned_ties}
use Rattle.std.specs.Option.{unwrap_or}
use Rattle.std.proofs.lemmas.Bool.{cases_eq, eq-eqb, ne_eqb}
use Rattle.dimacs_col.specs.Bag.{SameMembers}
use Rattle.dimacs_col.specs.BarSets.{IsCounted, count_in}
use Rattle.dimacs_col.specs.declared.bars.BarSet.{BarSet}
use Rattle.graph_limits.specs.declared.limits.TheConstants.{MAX_BARS}
use Rattle.graph_limits.specs.Pairs.{is_bar_at, bars_at, pair_cmp, same_pair}
use Rattle.graph_limits.proofs.Pairs.{same_pair-laws, same_pair-exact}
use Rattle.dimacs_col.proofs.Members.{count-ascending}

-- ---- a new key in a set of keys
-- a key that is put among others counts once more
pub count-insert : (p : ℕ × ℕ → Bool) (keys : List (ℕ × ℕ)) (key : ℕ × ℕ) → is_member same_pair keys key ≡ false →
    count_by p (insert_key pair_cmp keys key) ≡ count_by p keys + cond (p key) 1 0
count-insert p [] key new = omega (arith, sum_by-cons (λ x. cond (p x) 1 0) key [])
count-insert p (x ∷ xs) key new = by-order (pair_cmp key x) refl (count-insert p xs key others)
  where
    apart : same_pair key x ≡ false
    apart = first-no (same_pair key x) (is_member same_pair xs key) new
      where
        first-no : (a b : Bool) → (a || b) ≡ false → a ≡ false
        first-no true b e = absurd cc
        first-no false b e = refl

    others : is_member same_pair xs key ≡ false
    others = (rw apart at new)

    by-order : (o : Ordering) → pair_cmp key x ≡ o → count_by p (insert_key pair_cmp xs key) ≡ count_by p xs + cond (p key) 1 0 →
        count_by p (insert_key pair_cmp (x ∷ xs) key) ≡ count_by p (x ∷ xs) + cond (p key) 1 0
    by-order Less o more = rw o (omega (arith, sum_by-cons (λ y. cond (p y) 1 0) key (x ∷ xs)))
    by-order Equal o more = let e : false ≡ true = sym apart ∙ ap is_eq o in absurd cc
    by-order Greater o more = rw o (omega (
      arith,
      sum_by-cons (λ y. cond (p y) 1 0) x (insert_key pair_cmp xs key),
      sum_by-cons (λ y. cond (p y) 1 0) x xs,
      more,
    ))

-- ---- the bars of a vertex
-- whether a bar is of a vertex depends on the pair alone
is_bar_at-same : (v : ℕ) (q x : ℕ × ℕ) → same_pair q x ≡ true → is_bar_at v q ≡ is_bar_at v x
is_bar_at-same v q x e = ap (is_bar_at v) (same_pair-exact q x e)

-- lists with the same members have the same bars of a vertex
pub same-filtered : (xs ys : List (ℕ × ℕ)) (v : ℕ) → SameMembers xs ys → SameMembers (filter (is_bar_at v) xs) (filter (is_bar_at v) ys)
same-filtered xs ys v same q =
    is_member-filter same_pair-laws (is_bar_at v) q (is_bar_at-same v q) xs ∙ ap (λ b. b && is_bar_at v q) (same q)
    ∙ sym (is_member-filter same_pair-laws (is_bar_at v) q (is_bar_at-same v q) ys)

-- an ascending list has as many bars of a vertex as there are different ones in any list with its members
pub bars_at-is : (keys ys : List (ℕ × ℕ)) (v : ℕ) → IsStrictlySortedBy pair_cmp keys → SameMembers keys ys →
    bars_at keys v ≡ distinct_count same_pair (filter (is_bar_at v) ys)
bars_at-is keys ys v sorted same =
    sym (length-filter (is_bar_at v) keys)
    ∙ count-ascending (filter (is_bar_at v) keys) (filter (is_bar_at v) ys) (IsStrictlySortedBy-filter pair_cmp (is_bar_at v) keys sorted)
    (same-filtered keys ys v same)

-- what an insert says of a key that was new
pub was-new : (added was : Bool) → added ≡ not was → added ≡ true → was ≡ false
was-new added true e t = let none : false ≡ true = sym e ∙ t in absurd cc
was-new added false e t = refl

-- ---- after an insert: the set has the keys `new`, with the members of `old` and the bar
-- whether the vertex then has too many
pub many-is : (old new : List (ℕ × ℕ)) (bar : ℕ × ℕ) (many : Bool) → IsStrictlySortedBy pair_cmp new → SameMembers new (old ++ bar ∷ []) →
    nat_lt MAX_BARS (bars_at new bar.0) ≡ many → not many ≡ not (nat_lt MAX_BARS (distinct_count same_pair (filter (is_bar_at bar.0) (old ++ bar ∷ []))))
many-is old new bar many sorted same e = ap not (sym e ∙ ap (nat_lt MAX_BARS) (bars_at-is new (old ++ bar ∷ []) bar.0 sorted same))

-- the bars of a vertex, with a new bar among them
pub bars_at-more : (old : List (ℕ × ℕ)) (bar : ℕ × ℕ) → is_member same_pair old bar ≡ false →
    bars_at (insert_key pair_cmp old bar) bar.0 ≡ bars_at old bar.0 + 1
bars_at-more old bar new =
    let own : is_bar_at bar.0 bar ≡ true = eq-eqb bar.0 bar.0 refl in
    let one : cond {A = ℕ} (is_bar_at bar.0 bar) 1 0 ≡ 1 = rw own refl in
    omega (arith, one, count-insert (is_bar_at bar.0) old bar new)

pub bars_at-other : (old : List (ℕ × ℕ)) (bar : ℕ × ℕ) (v : ℕ) → is_member same_pair old bar ≡ false → (bar.0 ≡ v → ⊥) →
    bars_at (insert_key pair_cmp old bar) v ≡ bars_at old v
bars_at-other old bar v new apart =
    let other : is_bar_at v bar ≡ false = ne_eqb bar.0 v apart in
    let none : cond {A = ℕ} (is_bar_at v bar) 1 0 ≡ 0 = rw other refl in
    omega (arith, none, count-insert (is_bar_at v) old bar new)

-- the set still counts its bars
pub counted-same : (old : BarSet) (bars : BTreeSet (ℕ × ℕ)) → IsCounted old → bars.keys ≡ old.bars.keys →
    IsCounted (record { bars = bars; counts = old.counts })
counted-same old bars is same = record {
  each = λ v. is.each v ∙ ap (λ keys. bars_at keys v) (sym same);
  few = λ v. rw same (is.few v);
}

pub counted-more : (old : BarSet) (bar : ℕ × ℕ) (bars : BTreeSet (ℕ × ℕ)) (counts : BTreeMap ℕ ℕ) → IsCounted old →
    is_member same_pair old.bars.keys bar ≡ false →
    bars.keys ≡ insert_key pair_cmp old.bars.keys bar → Updates nat_cmp old.counts counts bar.0 (Some (count_in old bar.0 + 1)) →
    count_in old bar.0 < MAX_BARS → IsCounted (record { bars = bars; counts = counts })
counted-more old bar bars counts is new keys updates room = record {
  each = λ v. elim (cases_eq bar.0 v) [
    | inl same ↦ rw (← same, keys) (ap (λ o. unwrap_or o 0) updates.1 ∙ omega (arith, is.each bar.0, bars_at-more old.bars.keys bar new))
    | inr apart ↦ rw keys (ap (λ o. unwrap_or o 0) (updates.2 v (sym (unsigned_ties bar.0 v) ∙ ne_eqb bar.0 v apart)) ∙ is.each v
        ∙ sym (bars_at-other old.bars.keys bar v new apart))
  ];
  few = λ v. elim (cases_eq bar.0 v) [
    | inl same ↦ rw (← same, keys) (omega (arith, is.each bar.0, bars_at-more old.bars.keys bar new))
    | inr apart ↦ rw keys (omega (arith, is.few v, bars_at-other old.bars.keys bar v new apart))
  ];
}
