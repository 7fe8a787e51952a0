-- The key on top of the heap: that of the least first entry, which is taken.
use Rattle.std.proofs.Common.{◌≡◌, ◌∙◌, ℕ, zero, suc, ◌+◌, ◌<◌, ◌==◌, Bool, true, false, List, [], ◌∷◌, drop, length, get_or, set, refl, sym, ap, subst}
use Rattle.std.proofs.Common.{arith, ⊎_elim, inl, inr}
use Rattle.std.specs.Prelude.{count_by}
use Rattle.std.specs.BinaryHeap.{IsHeap, IsUpperBound, lt_by_cmp}
use Rattle.std.specs.List.{AllByRecursion}
use Rattle.std.specs.List.Sorted.{IsPermutation}
use Rattle.std.proofs.lemmas.Bool.{and_parts, cases_Bool, cases_eq, eqb-true, true≢false}
use Rattle.std.proofs.lemmas.List.{get_or_default, get_or-set_other, get_or-set_same}
use Rattle.std.proofs.lemmas.List.Sorted.{IsPermutation-refl, sum_by_popped}
use Rattle.std.proofs.lemmas.List.Sums.{sum_by-cons}
use Rattle.entries.specs.declared.entry.Entry.{Entry}
use Rattle.entries.specs.Rows.{stamped_entry, stamped_row}
use Rattle.entries.specs.declared.rows.StampedEntry.{StampedEntry}
use Rattle.transcripts.specs.Merge.{AreKeys, IsKeyAdded, IsTaken, Key, NoneLeft, is_key, key_cmp, keys_in, starts_at}
use Rattle.transcripts.proofs.Keys.{NotAfter, in_here, in_other, none_if, not_after, number, one_if, other_index, other_stamp, own_key}

-- what holds of each key holds of one that is counted
counted : (P : Key → Type 0) (p : Key → Bool) (keys : List Key) → AllByRecursion P keys → 0 < count_by p keys → (key : Key) × (p key ≡ true) × P key
counted P p [] all some = absurd (omega (arith, some))
counted P p (x ∷ keys) all some = ⊎_elim
    (λ yes. (x, yes, all.0))
    (λ no.
    let e = sum_by-cons (λ k. number (p k)) x keys in
    let none = none_if (p x) no in
    counted P p keys all.1 (omega (arith, some, e, none)))
    (cases_Bool (p x))

-- the first of the keys, and those behind it
pub top_first : (keys : List Key) (x : Key) → 0 < length keys → x ≡ get_or keys 0 x → IsPermutation keys (x ∷ drop 1 keys)
top_first [] x some is = absurd (omega (arith, some))
top_first (key ∷ keys) x some is = subst (λ k. IsPermutation (key ∷ keys) (k ∷ keys)) (sym is) (IsPermutation-refl (key ∷ keys))

module _ {M : Type 0} where
  -- the key on top of the heap is that of a list
  pub top_starts : (lists : List (List (StampedEntry M))) (keys rest : List Key) (x : Key) → AreKeys lists keys → IsPermutation keys (x ∷ rest)
      → starts_at (get_or lists x.0.1 []) x.0.0 ≡ true
  top_starts lists keys rest x are popped = ⊎_elim
      (λ yes. yes)
      (λ no.
      let all = sum_by_popped (λ k. number (is_key x.0.0 x.0.1 k)) x keys rest popped in
      let one = one_if (is_key x.0.0 x.0.1 x) (own_key x) in
      let none = none_if (starts_at (get_or lists x.0.1 []) x.0.0) no in
      let is = are.once x.0.0 x.0.1 in
      absurd (omega (arith, all, one, none, is)))
      (cases_Bool (starts_at (get_or lists x.0.1 []) x.0.0))

  -- no key of the list is left without it
  none_at : (lists : List (List (StampedEntry M))) (keys rest : List Key) (x : Key) → AreKeys lists keys → IsPermutation keys (x ∷ rest) → (s : ℕ)
      → count_by (is_key s x.0.1) rest ≡ 0
  none_at lists keys rest x are popped s =
      let all = sum_by_popped (λ k. number (is_key s x.0.1 k)) x keys rest popped in
      let is = are.once s x.0.1 in
      let starts = top_starts lists keys rest x are popped in
      ⊎_elim
      (λ e.
      let one : number (is_key s x.0.1 x) ≡ 1 = one_if (is_key s x.0.1 x) (ap (λ t. is_key t x.0.1 x) e ∙ own_key x) in
      let here : keys_in (get_or lists x.0.1 []) s ≡ 1 =
      one_if (starts_at (get_or lists x.0.1 []) s) (ap (λ t. starts_at (get_or lists x.0.1 []) t) e ∙ starts) in
      omega (arith, all, is, one, here))
      (λ ne.
      let none : number (is_key s x.0.1 x) ≡ 0 = none_if (is_key s x.0.1 x) (other_stamp s x.0.1 x ne) in
      let here = in_other (get_or lists x.0.1 []) s x.0.0 starts ne in
      omega (arith, all, is, none, here))
      (cases_eq s x.0.0)

  -- those of the other lists are left
  kept_at : (lists : List (List (StampedEntry M))) (keys rest : List Key) (x : Key) → AreKeys lists keys → IsPermutation keys (x ∷ rest) → (s i : ℕ)
      → (i ≡ x.0.1 → ⊥) → count_by (is_key s i) rest ≡ keys_in (get_or lists i []) s
  kept_at lists keys rest x are popped s i ne =
      let all = sum_by_popped (λ k. number (is_key s i k)) x keys rest popped in
      let is = are.once s i in
      let none = none_if (is_key s i x) (other_index s i x ne) in
      omega (arith, all, is, none)

  -- the list of that key has lost its first entry, and its new key is added
  pub keys_after : (lists : List (List (StampedEntry M))) (keys rest new : List Key) (x : Key) (more : List (StampedEntry M)) → AreKeys lists keys
      → IsPermutation keys (x ∷ rest) → x.0.1 < length lists → IsKeyAdded more x.0.1 rest new → IsHeap key_cmp new → AreKeys (set lists x.0.1 more) new
  keys_after lists keys rest new x more are popped within added heap = record {
    once = λ s i. ⊎_elim
        (λ e.
        let here = added.here s in
        let none = none_at lists keys rest x are popped s in
        let is : get_or (set lists x.0.1 more) x.0.1 [] ≡ more = get_or-set_same lists x.0.1 more [] within in
        let count : count_by (is_key s x.0.1) new ≡ keys_in more s = omega (arith, here, none) in
        subst (λ j. count_by (is_key s j) new ≡ keys_in (get_or (set lists x.0.1 more) j []) s) (sym e)
        (count ∙ ap (λ l. keys_in l s) (sym is)))
        (λ ne. added.others s i ne ∙ kept_at lists keys rest x are popped s i ne
        ∙ ap (λ l. keys_in l s) (sym (get_or-set_other lists x.0.1 i more [] ne)))
        (cases_eq i x.0.1);
    heap = heap;
  }

  -- no list begins before the key on top
  pub top_least : (lists : List (List (StampedEntry M))) (keys : List Key) (x : Key) → AreKeys lists keys → IsUpperBound key_cmp x keys
      → (i : ℕ) (e : StampedEntry M) (more : List (StampedEntry M)) → get_or lists i [] ≡ e ∷ more → NotAfter x.0.0 x.0.1 e.stamp i
  top_least lists keys x are bound i e more starts =
      let is = are.once e.stamp i in
      let one : keys_in (get_or lists i []) e.stamp ≡ 1 = ap (λ l. keys_in l e.stamp) starts ∙ in_here e more in
      let found = counted (λ y. lt_by_cmp key_cmp x y ≡ false) (is_key e.stamp i) keys bound (omega (arith, is, one)) in
      let key = found.0 in
      let parts = and_parts (key.0.0 == e.stamp) (key.0.1 == i) found.1 in
      let before = not_after x key found.2 in
      subst (λ t. NotAfter x.0.0 x.0.1 t i) (eqb-true key.0.0 e.stamp parts.0)
      (subst (λ j. NotAfter x.0.0 x.0.1 key.0.0 j) (eqb-true key.0.1 i parts.1) before)

  -- with no key, no list has an entry
  pub none_left : (lists : List (List (StampedEntry M))) (keys : List Key) → AreKeys lists keys → (0 < length keys → ⊥) → NoneLeft lists
  none_left lists (key ∷ keys) are none = absurd (none (omega arith))
  none_left lists [] are none = λ i. empty (get_or lists i []) (λ s. sym (are.once s i))
    where
      empty : (list : List (StampedEntry M)) → ((s : ℕ) → keys_in list s ≡ 0) → list ≡ []
      empty [] none = refl
      empty (e ∷ more) none = let a = none e.stamp in let b = in_here e more in absurd (omega (arith, a, b))

  -- the first entry of a list that begins with a stamp
  pub starts_with : (list : List (StampedEntry M)) (s : ℕ) (e : StampedEntry M) (more : List (StampedEntry M)) → starts_at list s ≡ true → list ≡ e ∷ more
      → e.stamp ≡ s
  starts_with list s e more starts is = eqb-true e.stamp s (subst (λ l. starts_at l s ≡ true) is starts)

  pub starts_within : (lists : List (List (StampedEntry M))) (i s : ℕ) → starts_at (get_or lists i []) s ≡ true → i < length lists
  starts_within lists i s starts = within lists i starts
    where
      within : (lists : List (List (StampedEntry M))) (i : ℕ) → starts_at (get_or lists i []) s ≡ true → i < length lists
      within [] i starts = absurd (true≢false (sym starts))
      within (list ∷ lists) zero starts = omega arith
      within (list ∷ lists) (suc i) starts = let lt = within lists i starts in omega (arith, lt)

  -- the list of the key on top has a first entry
  pub top_some : (lists : List (List (StampedEntry M))) (keys rest : List Key) (x : Key) (left : List (StampedEntry M)) → AreKeys lists keys
      → IsPermutation keys (x ∷ rest) → left ≡ get_or lists x.0.1 left → left ≡ [] → ⊥
  top_some lists keys rest x left are popped is empty =
      let starts = top_starts lists keys rest x are popped in
      let within = starts_within lists x.0.1 x.0.0 starts in
      let none : get_or lists x.0.1 [] ≡ [] = get_or_default lists x.0.1 [] left within ∙ sym is ∙ empty in
      true≢false (sym starts ∙ ap (λ l. starts_at l x.0.0) none)

  -- the first entry of the list of the key on top is taken
  pub top_taken : (lists : List (List (StampedEntry M))) (keys rest : List Key) (x : Key) (left more : List (StampedEntry M)) (s : ℕ) (e : Entry M)
      → AreKeys lists keys → IsPermutation keys (x ∷ rest) → IsUpperBound key_cmp x keys → left ≡ get_or lists x.0.1 left → left ≡ stamped_entry s e ∷ more
      → IsTaken lists (set lists x.0.1 more) (stamped_row s (x.0.1 + 1) e)
  top_taken lists keys rest x left more s e are popped bound is first =
      let starts = top_starts lists keys rest x are popped in
      let within = starts_within lists x.0.1 x.0.0 starts in
      let was : get_or lists x.0.1 [] ≡ stamped_entry s e ∷ more = get_or_default lists x.0.1 [] left within ∙ sym is ∙ first in
      let stamp : s ≡ x.0.0 = starts_with (get_or lists x.0.1 []) x.0.0 (stamped_entry s e) more starts was in
      record {
        index = x.0.1;
        vertex = refl;
        within = within;
        behind = more;
        was = was;
        is = refl;
        least = λ i later behind begins. ⊎_elim
            (λ lt. inl (omega (arith, lt, stamp)))
            (λ same. let e = same.0 in let le = same.1 in inr (stamp ∙ e, omega (arith, le)))
            (top_least lists keys x are bound i later behind begins);
      }
