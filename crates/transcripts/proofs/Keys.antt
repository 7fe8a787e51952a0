-- The keys of the first entries that the nodes have left: their order, how many there are, and one more.
use Rattle.std.proofs.Common.{◌≡◌, ◌∙◌, ℕ, ◌+◌, ◌<◌, ◌≤◌, ◌==◌, Bool, true, false, cond, List, [], ◌∷◌, ◌++◌, length, get_or, refl, sym, ap, subst}
use Rattle.std.proofs.Common.{arith, ⊎_elim, inl, inr}
use Rattle.std.specs.Prelude.{◌⊎◌, count_by}
use Rattle.std.specs.BinaryHeap.{IsHeap, lt_by_cmp}
use Rattle.std.specs.List.Sorted.{IsPermutation}
use Rattle.std.proofs.lemmas.Bool.{and_from, and_left, and_right, cases_eq, cases_order, eq-eqb, eqb-true, ne_eqb, lt-ltb, true≢false}
use Rattle.std.proofs.lemmas.List.{get_or_at, get_or_append_left, length-append}
use Rattle.std.proofs.Math.ListN.{get_or-eq_default}
use Rattle.std.proofs.lemmas.List.Sorted.{sum_by-IsPermutation, sum_by_pushed}
use Rattle.stamps.proofs.Sorts.{not_lt, cmp_less}
use Rattle.entries.specs.declared.rows.StampedEntry.{StampedEntry}
use Rattle.transcripts.specs.Merge.{AreKeys, IsKeyAdded, Key, is_key, key_cmp, keys_in, starts_at}

-- one pair is by its first part, and then by its second part, not after another
abbrev pub NotAfter : ℕ → ℕ → ℕ → ℕ → Type 0
NotAfter s i t j = (s < t) ⊎ ((s ≡ t) × (i ≤ j))

pub not_after : (x y : Key) → lt_by_cmp key_cmp x y ≡ false → NotAfter x.0.0 x.0.1 y.0.0 y.0.1
not_after x y never = ⊎_elim
    (λ e. ⊎_elim
    (λ same. inr (e, omega (arith, same)))
    (λ side. ⊎_elim
    (λ lt. inr (e, omega (arith, lt)))
    (λ gt.
    let no = not_lt y.0.0 x.0.0 (λ lt. omega (arith, lt, e)) in
    let yes = eq-eqb y.0.0 x.0.0 (sym e) in
    let less : lt_by_cmp key_cmp x y ≡ true = rw no (rw yes (cmp_less y.0.1 x.0.1 gt)) in
    absurd (true≢false (sym less ∙ never)))
    side)
    (cases_order x.0.1 y.0.1))
    (λ side. ⊎_elim
    (λ lt. inl lt)
    (λ gt. let less : lt_by_cmp key_cmp x y ≡ true = let yes = lt-ltb y.0.0 x.0.0 gt in rw yes refl in absurd (true≢false (sym less ∙ never)))
    side)
    (cases_order x.0.0 y.0.0)

-- one or none
abbrev pub number : Bool → ℕ
number b = cond b 1 0

pub one_if : (b : Bool) → b ≡ true → number b ≡ 1
one_if b is = rw is refl

pub none_if : (b : Bool) → b ≡ false → number b ≡ 0
none_if b is = rw is refl

-- whether a key has the stamp and the index of another
pub own_key : (x : Key) → is_key x.0.0 x.0.1 x ≡ true
own_key x = and_from (x.0.0 == x.0.0) (x.0.1 == x.0.1) (eq-eqb x.0.0 x.0.0 refl) (eq-eqb x.0.1 x.0.1 refl)

pub other_index : (s i : ℕ) (x : Key) → (i ≡ x.0.1 → ⊥) → is_key s i x ≡ false
other_index s i x ne = and_right (x.0.0 == s) (x.0.1 == i) (ne_eqb x.0.1 i (λ e. ne (sym e)))

pub other_stamp : (s i : ℕ) (x : Key) → (s ≡ x.0.0 → ⊥) → is_key s i x ≡ false
other_stamp s i x ne = and_left (x.0.0 == s) (x.0.1 == i) (ne_eqb x.0.0 s (λ e. ne (sym e)))

module _ {M : Type 0} where
  -- a list that isn't empty is counted once, at the stamp of its first entry
  pub in_here : (e : StampedEntry M) (more : List (StampedEntry M)) → keys_in (e ∷ more) e.stamp ≡ 1
  in_here e more = one_if (e.stamp == e.stamp) (eq-eqb e.stamp e.stamp refl)

  pub in_other : (list : List (StampedEntry M)) (s t : ℕ) → starts_at list t ≡ true → (s ≡ t → ⊥) → keys_in list s ≡ 0
  in_other [] s t starts ne = refl
  in_other (e ∷ more) s t starts ne = none_if (e.stamp == s) (ne_eqb e.stamp s (λ is. ne (sym is ∙ eqb-true e.stamp t starts)))

  -- a key more
  pub key_added : (list : List (StampedEntry M)) (stamp index : ℕ) (old new : List Key) → starts_at list stamp ≡ true
      → IsPermutation (record { 0 = (stamp, index) } ∷ old) new → IsKeyAdded list index old new
  key_added list stamp index old new starts pushed =
      let x : Key = record { 0 = (stamp, index) } in
      record {
        here = λ s.
            let all = sum_by_pushed (λ k. number (is_key s index k)) x old new pushed in
            let same : number (is_key s index x) ≡ keys_in list s = ⊎_elim
            (λ e. one_if (is_key s index x) (ap (λ t. is_key t index x) e ∙ own_key x)
            ∙ sym (one_if (starts_at list s) (ap (λ t. starts_at list t) e ∙ starts)))
            (λ ne. none_if (is_key s index x) (other_stamp s index x ne) ∙ sym (in_other list s stamp starts ne))
            (cases_eq s stamp) in
            all ∙ ap (λ n. n + count_by (is_key s index) old) same;
        others = λ s i ne.
            let all = sum_by_pushed (λ k. number (is_key s i k)) x old new pushed in
            let none = none_if (is_key s i x) (other_index s i x ne) in
            omega (arith, all, none);
      }

  -- a list without entries has no key
  pub none_added : (list : List (StampedEntry M)) (index : ℕ) (old new : List Key) → list ≡ [] → IsPermutation old new → IsKeyAdded list index old new
  none_added list index old new empty same = record {
    here = λ s.
        let all = sum_by-IsPermutation (λ k. number (is_key s index k)) old new same in
        let none : keys_in list s ≡ 0 = ap (λ l. keys_in l s) empty in
        omega (arith, all, none);
    others = λ s i ne. sum_by-IsPermutation (λ k. number (is_key s i k)) old new same;
  }

  -- without lists there are no keys
  pub no_keys : (lists : List (List (StampedEntry M))) (keys : List Key) → lists ≡ [] → keys ≡ [] → IsHeap key_cmp keys → AreKeys lists keys
  no_keys lists keys none empty heap = record { once = λ s i. rw (none, empty) refl; heap = heap }

  -- a list more, with its key
  pub keys_more : (lists : List (List (StampedEntry M))) (list : List (StampedEntry M)) (old new : List Key) → AreKeys lists old
      → IsKeyAdded list (length lists) old new → IsHeap key_cmp new → AreKeys (lists ++ (list ∷ [])) new
  keys_more lists list old new are added heap = record {
    once = λ s i. ⊎_elim
        (λ e.
        let here = added.here s in
        let none : count_by (is_key s (length lists)) old ≡ 0 =
        are.once s (length lists) ∙ ap (λ l. keys_in l s) (get_or-eq_default lists [] (omega arith)) in
        let count : count_by (is_key s (length lists)) new ≡ keys_in list s = omega (arith, here, none) in
        subst (λ j. count_by (is_key s j) new ≡ keys_in (get_or (lists ++ (list ∷ [])) j []) s) (sym e)
        (count ∙ ap (λ l. keys_in l s) (sym (get_or_at lists list [] [] (length lists) refl))))
        (λ ne. added.others s i ne ∙ are.once s i ∙ ap (λ l. keys_in l s) (sym (same i ne)))
        (cases_eq i (length lists));
    heap = heap;
  }
    where
      same : (i : ℕ) → (i ≡ length lists → ⊥) → get_or (lists ++ (list ∷ [])) i [] ≡ get_or lists i []
      same i ne = ⊎_elim
          (λ e. absurd (ne e))
          (λ side. ⊎_elim
          (λ lt. get_or_append_left lists (list ∷ []) [] i lt)
          (λ gt.
          let n = length-append lists (list ∷ []) in
          get_or-eq_default (lists ++ (list ∷ [])) [] (omega (arith, n, gt)) ∙ sym (get_or-eq_default lists [] (omega (arith, gt))))
          side)
          (cases_order i (length lists))
