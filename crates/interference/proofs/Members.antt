-- The members of a filtered list and of a range, and the place of a member.
use Rattle.std.proofs.Common.{◌≡◌, ◌≢◌, ◌⊎◌, inl, inr, ℕ, zero, suc, ◌+◌, ◌<◌, ◌≤◌, ◌==◌, Bool, true, false, cond, if◌then◌else◌, List, [], ◌∷◌, ◌++◌, length}
use Rattle.std.proofs.Common.{get_or, map, refl, sym, ◌∙◌, arith, ap}
use Rattle.std.specs.List.{Contains, All, filter, range_with_len}
use Rattle.std.specs.List.Sorted.{IsStrictlySortedBy}
use Rattle.std.specs.Ordering.{nat_cmp}
use Rattle.std.proofs.lemmas.Bool.{cases_eq, eqb-true}
use Rattle.std.proofs.lemmas.Bool.Decides.{nat_tests}
use Rattle.std.proofs.lemmas.Map.Keys.{sorted_from_strictly_increasing}
use Rattle.std.proofs.lemmas.List.Elements.{All-contains, filter_passes}
use Rattle.std.proofs.lemmas.List.FromFn.{length-range_with_len, get_or-range_with_len}
use Rattle.interference.specs.Net.{place_of}

pub Contains-tail : {X : Type 0} (x y : X) (ys : List X) → Contains ys x → Contains (y ∷ ys) x
Contains-tail x y ys h = (suc h.0, omega (arith, h.1), h.2)

Contains-keep : (b : Bool) (x y : ℕ) (kept : List ℕ) → Contains kept x → Contains (cond b (y ∷ kept) kept) x
Contains-keep true x y kept h = Contains-tail x y kept h
Contains-keep false x y kept h = h

pub Contains-filter : (p : ℕ → Bool) (xs : List ℕ) (x : ℕ) → Contains xs x → p x ≡ true → Contains (filter p xs) x
Contains-filter p [] x (k, below, is) passes = absurd (omega arith)
Contains-filter p (y ∷ ys) x (zero, below, is) passes = let e : p y ≡ true = ap p is ∙ passes in rw e (zero, omega arith, is)
Contains-filter p (y ∷ ys) x (suc k, below, is) passes = Contains-keep (p y) x y (filter p ys) (Contains-filter p ys x (k, omega arith, is) passes)

Contains-from_kept : (b : Bool) (x y : ℕ) (kept ys : List ℕ) → (Contains kept x → Contains ys x) → Contains (cond b (y ∷ kept) kept) x → Contains (y ∷ ys) x
Contains-from_kept true x y kept ys more (zero, below, is) = (zero, omega arith, is)
Contains-from_kept true x y kept ys more (suc k, below, is) = Contains-tail x y ys (more (k, omega arith, is))
Contains-from_kept false x y kept ys more h = Contains-tail x y ys (more h)

pub Contains-from_filter : (p : ℕ → Bool) (xs : List ℕ) (x : ℕ) → Contains (filter p xs) x → Contains xs x
Contains-from_filter p [] x h = h
Contains-from_filter p (y ∷ ys) x h = Contains-from_kept (p y) x y (filter p ys) ys (Contains-from_filter p ys x) h

pub passes-from_filter : (p : ℕ → Bool) (xs : List ℕ) (x : ℕ) → Contains (filter p xs) x → p x ≡ true
passes-from_filter p xs x h = All-contains (λ y. p y ≡ true) (filter p xs) x (filter_passes p xs) h

kept-map : (b : Bool) (f : ℕ → ℕ) (x : ℕ) (xs ys : List ℕ) → ys ≡ map f xs → cond b (f x ∷ ys) ys ≡ map f (cond b (x ∷ xs) xs)
kept-map true f x xs ys e = ap (λ zs. f x ∷ zs) e
kept-map false f x xs ys e = e

pub filter-map : (test : ℕ → Bool) (f : ℕ → ℕ) (xs : List ℕ) → filter test (map f xs) ≡ map f (filter (λ x. test (f x)) xs)
filter-map test f [] = refl
filter-map test f (x ∷ xs) = kept-map (test (f x)) f x (filter (λ y. test (f y)) xs) (filter test (map f xs)) (filter-map test f xs)

-- ---- a range
pub range-more : (a n : ℕ) → range_with_len a (suc n) ≡ range_with_len a n ++ (a + n) ∷ []
range-more a zero = let e : a ≡ a + 0 = omega arith in ap (λ (k : ℕ). k ∷ []) e
range-more a (suc n) =
    let e : a + 1 + n ≡ a + suc n = omega arith in
    ap (λ ks. a ∷ ks) (range-more (a + 1) n ∙ ap (λ (k : ℕ). range_with_len (a + 1) n ++ k ∷ []) e)

pub Contains-range : (a n x : ℕ) → a ≤ x → x < a + n → Contains (range_with_len a n) x
Contains-range a zero x low high = absurd (omega arith)
Contains-range a (suc n) x low high = by-cases (cases_eq a x) (λ after. Contains-range (a + 1) n x after (omega arith))
  where
    by-cases : (a ≡ x) ⊎ (a ≢ x) → (a + 1 ≤ x → Contains (range_with_len (a + 1) n) x) → Contains (range_with_len a (suc n)) x
    by-cases (inl e) more = (zero, omega arith, e)
    by-cases (inr e) more = Contains-tail x a (range_with_len (a + 1) n) (more (omega arith))

pub range-bounds : (a n : ℕ) → All (λ x. (a ≤ x) × (x < a + n)) (range_with_len a n)
range-bounds a n k d below =
    let size : length (range_with_len a n) ≡ n = length-range_with_len a n in
    let e : get_or (range_with_len a n) k d ≡ a + k = get_or-range_with_len a n k d (omega arith) in
    (omega arith, omega arith)

pub range-ascends : (a n : ℕ) → IsStrictlySortedBy nat_cmp (range_with_len a n)
range-ascends a n = sorted_from_strictly_increasing (range_with_len a n) (λ k below.
    let size : length (range_with_len a n) ≡ n = length-range_with_len a n in
    let e : get_or (range_with_len a n) k 0 ≡ a + k = get_or-range_with_len a n k 0 (omega arith) in
    let f : get_or (range_with_len a n) (k + 1) 0 ≡ a + (k + 1) = get_or-range_with_len a n (k + 1) 0 (omega arith) in
    omega arith)

-- ---- the place of a member
pub place_of-below : (x : ℕ) (xs : List ℕ) → Contains xs x → place_of x xs < length xs
place_of-below x [] (k, below, is) = absurd (omega arith)
place_of-below x (y ∷ ys) (zero, below, is) = grind (arith, nat_tests)
place_of-below x (y ∷ ys) (suc k, below, is) = let more : place_of x ys < length ys = place_of-below x ys (k, omega arith, is) in grind (arith, nat_tests)

place-case : (b : Bool) (x y place d : ℕ) (ys : List ℕ) → (b ≡ true → y ≡ x) → (place < length ys → get_or ys place d ≡ x) →
    (if b then 0 else place + 1) < suc (length ys) → get_or (y ∷ ys) (if b then 0 else place + 1) d ≡ x
place-case true x y place d ys met rest h = met refl
place-case false x y place d ys met rest h = let e : place + 1 ≡ suc place = omega arith in rw e (rest (omega arith))

pub place_of-is : (x : ℕ) (xs : List ℕ) (d : ℕ) → place_of x xs < length xs → get_or xs (place_of x xs) d ≡ x
place_of-is x [] d h = absurd (omega arith)
place_of-is x (y ∷ ys) d h = place-case (x == y) x y (place_of x ys) d ys (λ e. sym (eqb-true x y e)) (place_of-is x ys d) h

pub Contains-place_of : (x : ℕ) (xs : List ℕ) → place_of x xs < length xs → Contains xs x
Contains-place_of x xs h = (place_of x xs, h, place_of-is x xs x h)
