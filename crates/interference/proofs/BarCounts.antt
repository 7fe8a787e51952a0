-- Counts of bars: how many of a list pass a test, and what is known of the bars before one in an ascending list.
use Rattle.std.proofs.Common.{◌≡◌, ◌≢◌, inl, inr, ℕ, suc, ◌+◌, ◌-◌, ◌<◌, ◌≤◌, ◌==◌, Bool, true, false, cond, List, [], ◌∷◌, Some, length}
use Rattle.std.proofs.Common.{take, get_or, refl, sym, ap, ◌∙◌, subst, arith}
use Rattle.std.specs.List.{All, count_by, filter}
use Rattle.std.specs.Ordering.{nat_cmp}
use Rattle.std.specs.declared.cmp.Ordering.TheVariants.{Less, Equal, Greater}
use Rattle.std.specs.Cmp.{nat_cmp_is}
use Rattle.std.proofs.lemmas.Bool.{cases_eq, cases_order, eq-eqb}
use Rattle.std.proofs.lemmas.Bool.Decides.{nat_tests}
use Rattle.std.proofs.lemmas.List.{length-take-le, get_or-take, get_or_default}
use Rattle.std.proofs.lemmas.List.Elements.{All-more, All-tail}
use Rattle.std.proofs.lemmas.List.Sums.{count_by_more_no, count_by_more_yes, sum_by-cons, sum_by-take-le}
use Rattle.std.specs.List.Sorted.{IsStrictlySortedBy}
use Rattle.std.proofs.lemmas.Map.Keys.{Less-from_sorted}
use Rattle.graph_limits.specs.Pairs.{IsBarOf, is_bar_at, bars_at, pair_cmp}
use Rattle.graph_limits.specs.declared.limits.TheConstants.{MAX_BARS}

-- ---- tests and orders of numbers

pub eq-no : (a b : ℕ) → a ≢ b → (a == b) ≡ false
eq-no a b e = grind (arith, nat_tests)

-- of two pairs in order, the first has no greater first entry, and where these are equal a lesser second one
pub pairs-before : (p q : ℕ × ℕ) → pair_cmp p q ≡ Less → (p.0 ≤ q.0) × (p.0 ≡ q.0 → p.1 < q.1)
pairs-before p q less = elim (cases_order p.0 q.0) [
  | inl same ↦
      let equal : nat_cmp p.0 q.0 ≡ Equal = sym (nat_cmp_is p.0 q.0 Equal same) in
      let rest : nat_cmp p.1 q.1 ≡ Less = rw equal at less in
      (omega arith, λ _. less-from p.1 q.1 rest)
  | inr side ↦ elim side [
    | inl lt ↦ (omega arith, λ same. absurd (omega arith))
    | inr gt ↦
        let greater : nat_cmp p.0 q.0 ≡ Greater = sym (nat_cmp_is p.0 q.0 Greater gt) in
        let none : Greater ≡ Less = rw greater at less in
        absurd cc
  ]
]
  where
    less-from : (a b : ℕ) → nat_cmp a b ≡ Less → a < b
    less-from a b e = elim (cases_order a b) [
      | inl same ↦ let none : Equal ≡ Less = nat_cmp_is a b Equal same ∙ e in absurd cc
      | inr side ↦ elim side [
        | inl lt ↦ lt
        | inr gt ↦ let none : Greater ≡ Less = nat_cmp_is a b Greater gt ∙ e in absurd cc
      ]
    ]

-- ---- counts of a list with one element more, and of one in which nothing passes
pub count-yes : {X : Type 0} (p : X → Bool) (x : X) (xs : List X) → p x ≡ true → count_by p (x ∷ xs) ≡ suc (count_by p xs)
count-yes p x xs passed = let one : cond {A = ℕ} (p x) 1 0 ≡ 1 = rw passed refl in omega (arith, one, sum_by-cons (λ y. cond (p y) 1 0) x xs)

pub count-no : {X : Type 0} (p : X → Bool) (x : X) (xs : List X) → p x ≡ false → count_by p (x ∷ xs) ≡ count_by p xs
count-no p x xs failed = let none : cond {A = ℕ} (p x) 1 0 ≡ 0 = rw failed refl in omega (arith, none, sum_by-cons (λ y. cond (p y) 1 0) x xs)

pub count-none : {X : Type 0} (p : X → Bool) (xs : List X) → All (λ x. p x ≡ false) xs → count_by p xs ≡ 0
count-none p [] h = refl
count-none p (x ∷ xs) h = count-no p x xs (h 0 x (omega arith)) ∙ count-none p xs (All-tail (λ x. p x ≡ false) x xs h)

pub filter-none : {X : Type 0} (p : X → Bool) (xs : List X) → All (λ x. p x ≡ false) xs → filter p xs ≡ []
filter-none p [] h = refl
filter-none p (x ∷ xs) h = rw (h 0 x (omega arith)) (filter-none p xs (All-tail (λ x. p x ≡ false) x xs h))

-- ---- a list of bars, as far as it was tested
abbrev pub bar_at : List (ℕ × ℕ) → ℕ → ℕ × ℕ
bar_at bars k = get_or bars k (0, 0)

-- the first i bars fit; the last of them, and how many there are of its vertex
pub record FitSoFar (nodes : ℕ) (bars : List (ℕ × ℕ)) (last : ℕ × ℕ) (count i : ℕ) : Type 0 where
  pub are : All (IsBarOf (Some nodes)) (take i bars)
  pub ascending : (k : ℕ) → k + 1 < i → pair_cmp (bar_at bars k) (bar_at bars (k + 1)) ≡ Less
  pub few : (v : ℕ) → bars_at (take i bars) v ≤ MAX_BARS
  pub first : i ≡ 0 → last ≡ (0, 0)
  pub last_is : 0 < i → last ≡ bar_at bars (i - 1)
  pub before : (k : ℕ) → k < i → (bar_at bars k).0 ≤ last.0
  pub count_is : count ≡ bars_at (take i bars) last.0

module _ (nodes : ℕ) (bars : List (ℕ × ℕ)) (last : ℕ × ℕ) (count i : ℕ) (so_far : FitSoFar nodes bars last count i) (inside : i < length bars) where
  abbrev pub next : ℕ × ℕ
  next = bar_at bars i

  -- if the whole list fits, the next bar comes behind the last one
  pub next-after : IsStrictlySortedBy pair_cmp bars → 0 < next.0 → pair_cmp last next ≡ Less
  next-after sorted low = elim (cases_eq i 0) [
    | inl zero ↦
        let first : nat_cmp 0 next.0 ≡ Less = sym (nat_cmp_is 0 next.0 Less low) in
        rw (so_far.first zero, first) refl
    | inr some ↦ rw (so_far.last_is (omega arith)) (Less-from_sorted pair_cmp bars (i - 1) i (0, 0) sorted (omega arith) inside)
  ]

  pub run-is : (new : ℕ) → pair_cmp last next ≡ Less → new ≡ cond (next.0 == last.0) (count + 1) 1 → new ≡ bars_at (take (i + 1) bars) next.0
  run-is new less is =
      let more = count_by_more_yes (is_bar_at next.0) bars i (0, 0) inside (eq-eqb next.0 next.0 refl) in
      elim (cases_eq next.0 last.0) [
        | inl same ↦
            let passed = eq-eqb next.0 last.0 same in
            let old : count ≡ bars_at (take i bars) next.0 = rw same so_far.count_is in
            is ∙ rw passed (omega (arith, more, old))
        | inr other ↦
            let none : bars_at (take i bars) next.0 ≡ 0 = count-none (is_bar_at next.0) (take i bars) (λ k d below.
            let low : k < i = omega (arith, length-take-le i bars (omega arith)) in
            let at : get_or (take i bars) k d ≡ bar_at bars k = get_or_default (take i bars) k d (0, 0) below ∙ get_or-take i bars k (0, 0) low in
            rw at (eq-no (bar_at bars k).0 next.0 (omega (arith, so_far.before k low, (pairs-before last next less).0)))) in
            is ∙ rw (eq-no next.0 last.0 other) (omega (arith, more, none))
      ]

  pub fit-more : (new : ℕ) → IsBarOf (Some nodes) next → pair_cmp last next ≡ Less → new ≡ bars_at (take (i + 1) bars) next.0 → new ≤ MAX_BARS →
      FitSoFar nodes bars next new (i + 1)
  fit-more new is_bar less is small = record {
    are = All-more (IsBarOf (Some nodes)) bars i (0, 0) inside so_far.are is_bar;
    ascending = λ k below. elim (cases_eq (k + 1) i) [
      | inl same ↦
          let back : i - 1 ≡ k = omega arith in
          let here : pair_cmp (bar_at bars (i - 1)) next ≡ Less = rw (so_far.last_is (omega arith)) at less in
          subst (λ j. pair_cmp (bar_at bars k) (bar_at bars j) ≡ Less) (sym same) (rw back at here)
      | inr other ↦ so_far.ascending k (omega arith)
    ];
    few = λ v. elim (cases_eq next.0 v) [
      | inl same ↦ subst (λ w. bars_at (take (i + 1) bars) w ≤ MAX_BARS) same (omega arith)
      | inr other ↦ let same = count_by_more_no (is_bar_at v) bars i (0, 0) inside (eq-no next.0 v other) in omega (arith, same, so_far.few v)
    ];
    first = λ zero. absurd (omega arith);
    last_is = λ _. let back : i ≡ i + 1 - 1 = omega arith in ap (bar_at bars) back;
    before = λ k below. elim (cases_eq k i) [
      | inl same ↦ rw same (omega arith)
      | inr other ↦ omega (arith, so_far.before k (omega arith), (pairs-before last next less).0)
    ];
    count_is = is;
  }

  pub run-within : (new : ℕ) → new ≡ bars_at (take (i + 1) bars) next.0 → bars_at bars next.0 ≤ MAX_BARS → new ≤ MAX_BARS
  run-within new is few = omega (arith, sum_by-take-le (λ bar. cond (is_bar_at next.0 bar) 1 0) bars (i + 1))
