-- Vertices that have one identifier, one vertex more.
use Rattle.std.proofs.Common.{◌≡◌, inl, inr, ⊎_elim, ℕ, ◌+◌, ◌-◌, ◌<◌, ◌≤◌, List, length, Option, Some, None, MatchOption, slice_index, nat_le, refl, ap, ◌∙◌}
use Rattle.std.proofs.Common.{subst, arith}
use Rattle.std.proofs.lemmas.Bool.{cases_lt, cond_both, leb-true, leb-false}
use Rattle.std.specs.List.Sorted.{IsStrictlyIncreasing}
use Rattle.std.proofs.lemmas.Map.Keys.{below_from_sorted, sorted_from_strictly_increasing}
use Rattle.interference.specs.Filling.{HaveSameIdIn, HasNoSameId, IsFirstSameId, earlier}

pub none_from_increasing : (ids : List ℕ) → IsStrictlyIncreasing ids → HasNoSameId ids (length ids)
none_from_increasing ids rise v w within alike =
    omega (
      arith,
      below_from_sorted ids (v - 1) (w - 1) 0 (sorted_from_strictly_increasing ids rise) (omega (arith, alike.0, alike.1)) (omega (
        arith,
        alike.0,
        alike.1,
      )),
      alike.2,
    )

-- v is the first of the first n vertices that has the identifier q, if there is one
abbrev pub IsFirstWith : List ℕ → ℕ → ℕ → Option ℕ → Type 0
IsFirstWith ids n q first =
    MatchOption first ((v : ℕ) → 1 ≤ v → v ≤ n → slice_index ids (v - 1) ≡ q → ⊥)
    (λ v. (1 ≤ v) × (v ≤ n) × (slice_index ids (v - 1) ≡ q) × ((t : ℕ) → 1 ≤ t → t ≤ n → slice_index ids (t - 1) ≡ q → v ≤ t))

-- the first pair among the first n vertices, if there is one
abbrev pub IsFirstPair : List ℕ → ℕ → Option (ℕ × ℕ) → Type 0
IsFirstPair ids n pair = MatchOption pair (HasNoSameId ids n) (IsFirstSameId ids n)

pub first-keep : (ids : List ℕ) (n q : ℕ) (first : Option ℕ) → (first ≡ None → slice_index ids n ≡ q → ⊥) → IsFirstWith ids n q first →
    IsFirstWith ids (n + 1) q first
first-keep ids n q None other old = λ v low high e.
    ⊎_elim (λ last. let same : v - 1 ≡ n = omega arith in other refl (subst (λ x. slice_index ids x ≡ q) same e)) (λ below. old v low below e) (cases_lt n v)
first-keep ids n q (Some v) other old = (
  old.0,
  omega (arith, old.1),
  old.2,
  (λ t low high e. ⊎_elim (λ last. omega (arith, old.1)) (λ below. old.3 t low below e) (cases_lt n t)),
)

pub first-here : (ids : List ℕ) (n : ℕ) → IsFirstWith ids n (slice_index ids n) None → IsFirstWith ids (n + 1) (slice_index ids n) (Some (n + 1))
first-here ids n old = (
  omega arith,
  omega arith,
  (let same : n + 1 - 1 ≡ n = omega arith in ap (slice_index ids) same),
  (λ t low high e. ⊎_elim (λ last. omega arith) (λ below. absurd (old t low below e)) (cases_lt n t)),
)

-- ---- one vertex more, whose identifier is new
same_id-new : (ids : List ℕ) (n : ℕ) → IsFirstWith ids n (slice_index ids n) None → (v w : ℕ) → w ≤ n + 1 → HaveSameIdIn ids v w → w ≤ n
same_id-new ids n none v w within alike =
    ⊎_elim
    (λ last. let same : w - 1 ≡ n = omega arith in
    absurd (none v alike.0 (omega (arith, alike.1)) (alike.2 ∙ ap (slice_index ids) same)))
    (λ below. below) (cases_lt n w)

pub pair-new : (ids : List ℕ) (n : ℕ) (pair : Option (ℕ × ℕ)) → IsFirstWith ids n (slice_index ids n) None → IsFirstPair ids n pair →
    IsFirstPair ids (n + 1) pair
pair-new ids n None none old = λ v w within alike. old v w (same_id-new ids n none v w within alike) alike
pair-new ids n (Some pair) none old = (
  omega (arith, old.0),
  old.1,
  (λ t u within alike. old.2 t u (same_id-new ids n none t u within alike) alike),
)

-- ---- one vertex more, whose identifier v has too
last-after : (ids : List ℕ) (n v : ℕ) → IsFirstWith ids n (slice_index ids n) (Some v) → (t u : ℕ) → n < u → u ≤ n + 1 → HaveSameIdIn ids t u → v ≤ t
last-after ids n v first t u past within alike =
    let same : u - 1 ≡ n = omega arith in
    first.3 t alike.0 (omega (arith, alike.1)) (alike.2 ∙ ap (slice_index ids) same)

here-same_id : (ids : List ℕ) (n v : ℕ) → IsFirstWith ids n (slice_index ids n) (Some v) → HaveSameIdIn ids v (n + 1)
here-same_id ids n v first =
    let same : n ≡ n + 1 - 1 = omega arith in
    (first.0, omega (arith, first.1), first.2 ∙ ap (slice_index ids) same)

pub pair-old : (ids : List ℕ) (n v : ℕ) (pair : Option (ℕ × ℕ)) → IsFirstWith ids n (slice_index ids n) (Some v) → IsFirstPair ids n pair →
    IsFirstSameId ids (n + 1) (earlier pair v (n + 1))
pair-old ids n v None first old = (
  omega arith,
  here-same_id ids n v first,
  (λ t u within alike. ⊎_elim
      (λ last. let low = last-after ids n v first t u last within alike in
      ⊎_elim (λ less. inl less) (λ more. inr (omega arith, omega arith)) (cases_lt v t))
      (λ below. absurd (old t u below alike)) (cases_lt n u)),
)
pair-old ids n v (Some pair) first old =
    cond_both (nat_le pair.0 v) pair (v, n + 1) (IsFirstSameId ids (n + 1))
    (λ keeps. let before = leb-true pair.0 v keeps in (
      omega (arith, old.0),
      old.1,
      (λ t u within alike. ⊎_elim
          (λ last. let low = last-after ids n v first t u last within alike in
          ⊎_elim (λ less. inl less) (λ more. inr (omega arith, omega (arith, old.0))) (cases_lt pair.0 t))
          (λ below. old.2 t u below alike) (cases_lt n u)),
    ))
    (λ takes. let before = leb-false pair.0 v takes in (
      omega arith,
      here-same_id ids n v first,
      (λ t u within alike. ⊎_elim
          (λ last. let low = last-after ids n v first t u last within alike in
          ⊎_elim (λ less. inl less) (λ more. inr (omega arith, omega arith)) (cases_lt v t))
          (λ below. ⊎_elim (λ less. inl (omega arith)) (λ same. inl (omega (arith, same.0))) (old.2 t u below alike)) (cases_lt n u)),
    ))
