-- Sums over lists: of two numbers, over a list by its places, over two lists in either order.
use Rattle.std.proofs.Common.{◌≡◌, ⊎_elim, ℕ, zero, suc, ◌+◌, ◌*◌, ◌<◌, ◌≤◌, ◌==◌, if◌then◌else◌, List, [], ◌∷◌, length, get_or, map, refl, sym, ap, ◌∙◌, arith}
use Rattle.std.specs.List.{All, sum_by, range_with_len}
use Rattle.std.proofs.Math.Nat.{zero-mul, suc-mul, add-mul}
use Rattle.std.proofs.lemmas.Bool.{cases_eq, eq-eqb, ne_eqb, cond-true, cond-false}
use Rattle.std.proofs.lemmas.List.Elements.{All-head, All-tail}
use Rattle.std.proofs.lemmas.List.FromFn.{fill_by_all}
use Rattle.std.proofs.lemmas.List.Sums.{sum_by-cons}

module _ {X : Type 0} where
  pub sum_by-same : (f g : X → ℕ) (xs : List X) → All (λ x. f x ≡ g x) xs → sum_by f xs ≡ sum_by g xs
  sum_by-same f g [] h = refl
  sum_by-same f g (x ∷ xs) h =
      omega (
        arith,
        sum_by-cons f x xs,
        sum_by-cons g x xs,
        All-head (λ x. f x ≡ g x) x xs h,
        sum_by-same f g xs (All-tail (λ x. f x ≡ g x) x xs h),
      )

  pub sum_by-add : (f g : X → ℕ) (xs : List X) → sum_by (λ x. f x + g x) xs ≡ sum_by f xs + sum_by g xs
  sum_by-add f g [] = refl
  sum_by-add f g (x ∷ xs) =
      omega (arith, sum_by-cons (λ x. f x + g x) x xs, sum_by-cons f x xs, sum_by-cons g x xs, sum_by-add f g xs)

pub sum_by-map : {X Y : Type 0} (f : Y → ℕ) (g : X → Y) (xs : List X) → sum_by f (map g xs) ≡ sum_by (λ x. f (g x)) xs
sum_by-map f g [] = refl
sum_by-map f g (x ∷ xs) = omega (arith, sum_by-cons f (g x) (map g xs), sum_by-cons (λ x. f (g x)) x xs, sum_by-map f g xs)

-- a sum over a list, by its places
pub sum_by-places : {X : Type 0} (f : X → ℕ) (xs : List X) (d : X) →
    sum_by (λ i. f (get_or xs i d)) (range_with_len 0 (length xs)) ≡ sum_by f xs
sum_by-places f xs d =
    sym (sum_by-map f (λ i. get_or xs i d) (range_with_len 0 (length xs)))
    ∙ ap (sum_by f) (sym (fill_by_all (λ i. get_or xs i d) xs (length xs) d refl (λ k lt. refl)))

pub sum_by-const : {X : Type 0} (c : ℕ) (xs : List X) → sum_by (λ x. c) xs ≡ length xs * c
sum_by-const c [] = omega (arith, zero-mul c)
sum_by-const c (x ∷ xs) = omega (arith, sum_by-cons (λ x. c) x xs, sum_by-const c xs, suc-mul (length xs) c)

pub sum_by-times : {X : Type 0} (f : X → ℕ) (c : ℕ) (xs : List X) → sum_by (λ x. f x * c) xs ≡ sum_by f xs * c
sum_by-times f c [] = omega (arith, zero-mul c)
sum_by-times f c (x ∷ xs) =
    omega (
      arith,
      sum_by-cons (λ x. f x * c) x xs,
      sum_by-times f c xs,
      add-mul (f x) (sum_by f xs) c,
      ap (λ n. n * c) (sum_by-cons f x xs),
    )

-- over two lists, either one first
pub sum_by-swap : {X Y : Type 0} (f : X → Y → ℕ) (xs : List X) (ys : List Y) →
    sum_by (λ x. sum_by (f x) ys) xs ≡ sum_by (λ y. sum_by (λ x. f x y) xs) ys
sum_by-swap f [] ys = omega (arith, sum_by-const 0 ys)
sum_by-swap f (x ∷ xs) ys =
    sum_by-cons (λ z. sum_by (f z) ys) x xs
    ∙ ap (λ n. sum_by (f x) ys + n) (sum_by-swap f xs ys)
    ∙ sym (sum_by-add (f x) (λ y. sum_by (λ z. f z y) xs) ys)
    ∙ sum_by-same _ _ ys (λ k d lt. sym (sum_by-cons (λ z. f z (get_or ys k d)) x xs))

-- a range that begins one higher
pub range-shifted : (a n : ℕ) → range_with_len (a + 1) n ≡ map (λ i. i + 1) (range_with_len a n)
range-shifted a zero = refl
range-shifted a (suc n) = ap (λ l. (a + 1) ∷ l) (range-shifted (a + 1) n)

pub sum_by-shifted : (f : ℕ → ℕ) (a n : ℕ) → sum_by f (range_with_len (a + 1) n) ≡ sum_by (λ i. f (i + 1)) (range_with_len a n)
sum_by-shifted f a n = ap (sum_by f) (range-shifted a n) ∙ sum_by-map f (λ i. i + 1) (range_with_len a n)

-- of a range, the entry x alone
pub sum_by-one : (x a n c : ℕ) → a ≤ x → x < a + n → sum_by (λ w. if x == w then c else 0) (range_with_len a n) ≡ c
sum_by-one x a zero c low high = absurd (omega arith)
sum_by-one x a (suc n) c low high =
    let more = sum_by-cons (λ w. if x == w then c else 0) a (range_with_len (a + 1) n) in
    ⊎_elim
    (λ e. omega (arith, more, cond-true (x == a) c 0 (eq-eqb x a e), past x (a + 1) n c (omega arith)))
    (λ ne. omega (arith, more, cond-false (x == a) c 0 (ne_eqb x a ne), sum_by-one x (a + 1) n c (omega arith) (omega arith)))
    (cases_eq x a)
  where
    past : (x a n c : ℕ) → x < a → sum_by (λ w. if x == w then c else 0) (range_with_len a n) ≡ 0
    past x a zero c lt = refl
    past x a (suc n) c lt =
        omega (
          arith,
          sum_by-cons (λ w. if x == w then c else 0) a (range_with_len (a + 1) n),
          cond-false (x == a) c 0 (ne_eqb x a (λ e. omega arith)),
          past x (a + 1) n c (omega arith),
        )

-- a sum over a list of numbers of a range, by the numbers
pub sum_by-numbers : (f : ℕ → ℕ) (xs : List ℕ) (a n : ℕ) → All (λ x. (a ≤ x) × (x < a + n)) xs →
    sum_by f xs ≡ sum_by (λ w. sum_by (λ x. if x == w then f w else 0) xs) (range_with_len a n)
sum_by-numbers f xs a n bounds =
    sum_by-same f (λ x. sum_by (λ w. if x == w then f w else 0) (range_with_len a n)) xs (λ k d lt. sym (each (get_or xs k d) (bounds k d lt)))
    ∙ sum_by-swap (λ x w. if x == w then f w else 0) xs (range_with_len a n)
  where
    here : (x w : ℕ) → (if x == w then f w else 0) ≡ (if x == w then f x else 0)
    here x w =
        ⊎_elim (λ e. ap (λ y. if x == w then f y else 0) (sym e))
        (λ ne. cond-false (x == w) (f w) 0 (ne_eqb x w ne) ∙ sym (cond-false (x == w) (f x) 0 (ne_eqb x w ne)))
        (cases_eq x w)

    each : (x : ℕ) → (a ≤ x) × (x < a + n) → sum_by (λ w. if x == w then f w else 0) (range_with_len a n) ≡ f x
    each x within =
        sum_by-same _ _ (range_with_len a n) (λ k d lt. here x (get_or (range_with_len a n) k d)) ∙ sum_by-one x a n (f x) within.0 within.1
