-- Stamps rise exactly if each is greater than the one before it.
use Rattle.std.proofs.Common.{◌≡◌, ℕ, zero, suc, ◌+◌, ◌-◌, ◌<◌, ◌≤◌, List, [], ◌∷◌, length, get_or, ap, ◌∙◌, arith, subst, ⊎_elim}
use Rattle.std.proofs.lemmas.Bool.{cases_lt}
use Rattle.std.proofs.lemmas.List.{get_or_default}
use Rattle.std.proofs.lemmas.List.Elements.{All-cons, All-get_or, All-nil, All-weaker}
use Rattle.entries.specs.declared.rows.StampedEntry.{StampedEntry}
use Rattle.stamps.specs.Stamps.{Rises}

module _ {M : Type 0} where
  -- each of the first n stamps is greater than the one before it
  abbrev pub StepsUp : List (StampedEntry M) → ℕ → Type 0
  StepsUp entries n = (k : ℕ) (d : StampedEntry M) → k + 1 < n → (get_or entries k d).stamp < (get_or entries (k + 1) d).stamp

  pub rises_by_steps : (entries : List (StampedEntry M)) → StepsUp entries (length entries) → Rises entries
  rises_by_steps [] up = tt
  rises_by_steps (x ∷ []) up = (All-nil (λ (later : StampedEntry M). x.stamp < later.stamp), tt)
  rises_by_steps (x ∷ y ∷ entries) up =
      let first : x.stamp < y.stamp = let at = up 0 x (omega arith) in at in
      let rest = rises_by_steps (y ∷ entries) (λ k d lt.
      let e : suc k + 1 ≡ suc (k + 1) = omega arith in
      subst (λ j. (get_or (y ∷ entries) k d).stamp < (get_or (x ∷ y ∷ entries) j d).stamp) e (up (suc k) d (omega (arith, lt)))) in (
        All-cons (λ (later : StampedEntry M). x.stamp < later.stamp) y entries first
            (All-weaker (λ (later : StampedEntry M). y.stamp < later.stamp) (λ (later : StampedEntry M). x.stamp < later.stamp)
            (λ z above. omega (arith, first, above)) entries rest.0),
        rest,
      )

  pub steps_of_rising : (entries : List (StampedEntry M)) → Rises entries → StepsUp entries (length entries)
  steps_of_rising [] rises k d lt = absurd (omega (arith, lt))
  steps_of_rising (x ∷ entries) rises zero d lt =
      All-get_or (λ (later : StampedEntry M). x.stamp < later.stamp) entries 0 d (omega (arith, lt)) rises.0
  steps_of_rising (x ∷ entries) rises (suc k) d lt =
      let e : suc (k + 1) ≡ suc k + 1 = omega arith in
      subst (λ j. (get_or entries k d).stamp < (get_or (x ∷ entries) j d).stamp) e (steps_of_rising entries rises.1 k d (omega (arith, lt)))

  -- ---- one entry more
  pub next_up : (entries : List (StampedEntry M)) (i : ℕ) (x y : StampedEntry M) → 1 ≤ i → i < length entries → StepsUp entries i
      → (get_or entries (i - 1) y).stamp < (get_or entries i x).stamp → StepsUp entries (i + 1)
  next_up entries i x y low within up lt k d below = ⊎_elim
      (λ earlier. up k d earlier)
      (λ past.
      let last : i - 1 ≡ k = omega (arith, low, below, past) in
      let next : i ≡ k + 1 = omega (arith, low, below, past) in
      let old : get_or entries (i - 1) y ≡ get_or entries k d =
      ap (λ j. get_or entries j y) last ∙ get_or_default entries k y d (omega (arith, within, next)) in
      let new : get_or entries i x ≡ get_or entries (k + 1) d =
      ap (λ j. get_or entries j x) next ∙ get_or_default entries (k + 1) x d (omega (arith, within, next)) in
      subst (λ e. e.stamp < (get_or entries (k + 1) d).stamp) old (subst (λ e. (get_or entries (i - 1) y).stamp < e.stamp) new lt))
      (cases_lt (k + 1) i)

  -- an entry whose stamp isn't greater than that of the one before it
  pub no_rise : (entries : List (StampedEntry M)) (i : ℕ) (x y : StampedEntry M) → 1 ≤ i → i < length entries → Rises entries
      → (get_or entries i x).stamp ≤ (get_or entries (i - 1) y).stamp → ⊥
  no_rise entries i x y low within rises le =
      let next : i - 1 + 1 ≡ i = omega (arith, low) in
      let up : (get_or entries (i - 1) y).stamp < (get_or entries (i - 1 + 1) y).stamp =
      steps_of_rising entries rises (i - 1) y (omega (arith, next, within)) in
      let same : get_or entries (i - 1 + 1) y ≡ get_or entries i x =
      ap (λ j. get_or entries j y) next ∙ get_or_default entries i y x within in
      let lt = subst (λ e. (get_or entries (i - 1) y).stamp < e.stamp) same up in
      omega (arith, lt, le)
