-- A list of which a loop has changed the entries below its place, and not the others.
use Rattle.std.proofs.Common.{◌≡◌, ◌≢◌, ℕ, ◌+◌, ◌<◌, ◌≤◌, List, length, get_or, set, sym, ◌∙◌, arith, inl, inr, subst, get_or-set_same, get_or-set_other}
use Rattle.std.proofs.lemmas.List.{length-set}
use Rattle.sync_rounds.proofs.Received.{below_or_last}

-- what holds of each entry below i and of the new one holds of each below i + 1
pub done_more : {X : Type 0} (P : ℕ → X → Type 0) (n i : ℕ) (xs : List X) (x : X) → length xs ≡ n → i < n → ((k : ℕ) (d : X) → k < i → P k (get_or xs k d)) →
    P i x → (k : ℕ) (d : X) → k < i + 1 → P k (get_or (set xs i x) k d)
done_more {X} P n i xs x size within before here k d l =
    elim (below_or_last k i l) [
      | inl below ↦ let other : k ≢ i = omega arith in subst (P k) (sym (get_or-set_other xs i k x d other)) (before k d below)
      | inr same ↦ subst (λ (j : ℕ). P j (get_or (set xs i x) j d)) (sym same) (subst (P i) (sym (get_or-set_same xs i x d (omega arith))) here)
    ]

module _ {X : Type 0} (n : ℕ) (Done Left : ℕ → X → Type 0) where
  pub record IsHalfway (i : ℕ) (xs : List X) : Type 0 where
    pub count : length xs ≡ n
    pub done : (k : ℕ) (d : X) → k < i → Done k (get_or xs k d)
    pub left : (k : ℕ) (d : X) → i ≤ k → k < n → Left k (get_or xs k d)

  -- at first all are left
  pub halfway-start : (xs : List X) → length xs ≡ n → ((k : ℕ) (d : X) → k < n → Left k (get_or xs k d)) → IsHalfway 0 xs
  halfway-start xs count left = record { count = count; done = λ k d low. absurd (omega arith); left = λ k d low high. left k d high }

  -- the entry at the place is changed
  pub halfway-set : (i : ℕ) (xs : List X) (x : X) → i < n → IsHalfway i xs → Done i x → IsHalfway (i + 1) (set xs i x)
  halfway-set i xs x within before here = record {
    count = length-set xs i x ∙ before.count;
    done = done_more Done n i xs x before.count within before.done here;
    left = λ k d low high.
        let other : k ≢ i = omega arith in
        subst (Left k) (sym (get_or-set_other xs i k x d other)) (before.left k d (omega arith) high);
  }

  -- it is done as it is
  pub halfway-stay : (i : ℕ) (xs : List X) → IsHalfway i xs → ((d : X) → Done i (get_or xs i d)) → IsHalfway (i + 1) xs
  halfway-stay i xs before here = record {
    count = before.count;
    done = λ k d low. elim (below_or_last k i low) [
      | inl below ↦ before.done k d below
      | inr same ↦ subst (λ (j : ℕ). Done j (get_or xs j d)) (sym same) (here d)
    ];
    left = λ k d low high. before.left k d (omega arith) high;
  }
