-- The places of the classes in a sweep: each class of 0 to the greatest has one of its own, in the same range.
use Rattle.std.proofs.Common.{◌≡◌, ◌≢◌, ℕ, zero, suc, ◌+◌, ◌-◌, ◌/◌, ◌%◌, ◌<◌, ◌≤◌, ◌==◌, Bool, true, false, ap, arith, refl}
use Rattle.std.specs.Prelude.{if◌then◌else◌, nat_lt}
use Rattle.std.proofs.lemmas.Bool.Decides.{nat_tests}
use Rattle.std.proofs.lemmas.Bool.{lt-ltb}
use native.Mathlib.Decide.{dec_lt}
use Prim.{yes, no}
use Rattle.recolouring.specs.Knowing.{place, place_by_halves}

-- two numbers of the same remainder by 2 that are as far from a third
same-half : (greatest c d : ℕ) → c ≤ greatest → d ≤ greatest → c % 2 ≡ d % 2 → (greatest - c) / 2 ≡ (greatest - d) / 2 → c ≡ d
same-half greatest c d low below parity halves = omega (arith, low, below, parity, halves)

-- halves that are first, and those that come after them
module _ (half greatest : ℕ) (is : half < 2) where
  low-by : (b : Bool) (c : ℕ) → (c % 2 == half) ≡ b → c ≤ greatest
      → (if b then (greatest - c) / 2 else (greatest + 2 - half) / 2 + (greatest - c) / 2) ≤ greatest
  low-by true c e h = omega (arith, h)
  low-by false c e h =
      let other : c % 2 ≢ half = grind (arith, nat_tests) in
      omega (arith, h, is, other)

  pub halves-low : (c : ℕ) → c ≤ greatest → place_by_halves half greatest c ≤ greatest
  halves-low c h = low-by (c % 2 == half) c refl h

  apart-by : (a b : Bool) (c d : ℕ) → (c % 2 == half) ≡ a → (d % 2 == half) ≡ b → c ≤ greatest → d ≤ greatest
      → (if a then (greatest - c) / 2 else (greatest + 2 - half) / 2 + (greatest - c) / 2)
      ≡ (if b then (greatest - d) / 2 else (greatest + 2 - half) / 2 + (greatest - d) / 2) → c ≡ d
  apart-by true true c d is_c is_d h l same =
      let first : c % 2 ≡ half = grind (arith, nat_tests) in
      let second : d % 2 ≡ half = grind (arith, nat_tests) in
      same-half greatest c d h l (omega (arith, first, second)) same
  apart-by false false c d is_c is_d h l same =
      let first : c % 2 ≢ half = grind (arith, nat_tests) in
      let second : d % 2 ≢ half = grind (arith, nat_tests) in
      same-half greatest c d h l (omega (arith, first, second, is)) (omega (arith, same))
  apart-by true false c d is_c is_d h l same =
      let first : c % 2 ≡ half = grind (arith, nat_tests) in
      absurd (omega (arith, first, same, h, l, is))
  apart-by false true c d is_c is_d h l same =
      let second : d % 2 ≡ half = grind (arith, nat_tests) in
      absurd (omega (arith, second, same, h, l, is))

  pub halves-apart : (c d : ℕ) → c ≤ greatest → d ≤ greatest
      → place_by_halves half greatest c ≡ place_by_halves half greatest d → c ≡ d
  halves-apart c d h l same = apart-by (c % 2 == half) (d % 2 == half) c d refl refl h l same

-- what holds of both orders, by the tests
two-low : (b : Bool) (x y greatest : ℕ) → x ≤ greatest → y ≤ greatest → (if b then x else y) ≤ greatest
two-low true x y greatest h l = h
two-low false x y greatest h l = l

two-apart : (b : Bool) (x y u v : ℕ) (P : Type 0) → (x ≡ u → P) → (y ≡ v → P) → (if b then x else y) ≡ (if b then u else v) → P
two-apart true x y u v P f g e = f e
two-apart false x y u v P f g e = g e

half-of : (sweep : ℕ) → sweep % 3 - 1 < 2
half-of sweep = omega arith

pub place-low : (barring : Bool) (sweep greatest c : ℕ) → c ≤ greatest → place barring sweep greatest c ≤ greatest
place-low true sweep greatest c h = two-low (sweep % 2 == 0) (greatest - c) c greatest (omega arith) h
place-low false sweep greatest c h =
    two-low (sweep % 3 == 0) (greatest - c) (place_by_halves (sweep % 3 - 1) greatest c) greatest (omega arith)
    (halves-low (sweep % 3 - 1) greatest (half-of sweep) c h)

pub place-apart : (barring : Bool) (sweep greatest c d : ℕ) → c ≤ greatest → d ≤ greatest
    → place barring sweep greatest c ≡ place barring sweep greatest d → c ≡ d
place-apart true sweep greatest c d h l same =
    two-apart (sweep % 2 == 0) (greatest - c) c (greatest - d) d (c ≡ d) (λ e. omega (arith, e, h, l)) (λ e. e) same
place-apart false sweep greatest c d h l same =
    two-apart (sweep % 3 == 0) (greatest - c) (place_by_halves (sweep % 3 - 1) greatest c)
    (greatest - d) (place_by_halves (sweep % 3 - 1) greatest d) (c ≡ d)
    (λ e. omega (arith, e, h, l)) (λ e. halves-apart (sweep % 3 - 1) greatest (half-of sweep) c d h l e) same

-- how many of the first n classes have a place before p
abbrev pub rank : (ℕ → ℕ) → ℕ → ℕ → ℕ
rank at p zero = 0
rank at p (suc n) = rank at p n + (if nat_lt (at n) p then 1 else 0)

one-most : (b : Bool) → (if b then 1 else 0) ≤ 1
one-most true = omega arith
one-most false = omega arith

more-by : (a b : Bool) (x p q : ℕ) → nat_lt x p ≡ a → nat_lt x q ≡ b → p ≤ q → (if a then 1 else 0) ≤ (if b then 1 else 0)
more-by true true x p q e f h = omega arith
more-by false b x p q e f h = omega arith
more-by true false x p q e f h =
    let less : x < p = grind (arith, nat_tests) in
    let below : nat_lt x q ≡ true = lt-ltb x q (omega (arith, less, h)) in
    absurd (cc)

rank-grows : (at : ℕ → ℕ) (p q n : ℕ) → p ≤ q → rank at p n ≤ rank at q n
rank-grows at p q zero h = omega arith
rank-grows at p q (suc n) h =
    let one = more-by (nat_lt (at n) p) (nat_lt (at n) q) (at n) p q refl refl h in
    let rest = rank-grows at p q n h in
    omega (arith, one, rest)

pub rank-most : (at : ℕ → ℕ) (p n : ℕ) → rank at p n ≤ n
rank-most at p zero = omega arith
rank-most at p (suc n) = let one = one-most (nat_lt (at n) p) in let rest = rank-most at p n in omega (arith, one, rest)

none-at : (b : Bool) (x p : ℕ) → nat_lt x p ≡ b → p ≤ x → (if b then 1 else 0) ≤ 0
none-at true x p e h = let less : x < p = grind (arith, nat_tests) in absurd (omega (arith, less, h))
none-at false x p e h = omega arith

some-at : (b : Bool) (x p : ℕ) → nat_lt x p ≡ b → x < p → 1 ≤ (if b then 1 else 0)
some-at true x p e h = omega arith
some-at false x p e h = let is : nat_lt x p ≡ true = lt-ltb x p h in absurd (cc)

-- a class that isn't before p is missing in its count
pub rank-less : (at : ℕ → ℕ) (p n c : ℕ) → c < n → p ≤ at c → suc (rank at p n) ≤ n
rank-less at p zero c below h = absurd (omega (arith, below))
rank-less at p (suc n) c below h = elim (dec_lt c n) [
  | yes early ↦
      let one = one-most (nat_lt (at n) p) in
      let rest = rank-less at p n c early h in
      omega (arith, one, rest)
  | no late ↦
      let same : c ≡ n = omega (arith, below, late) in
      let there : p ≤ at n = omega (arith, h, ap at same) in
      let none = none-at (nat_lt (at n) p) (at n) p refl there in
      let rest = rank-most at p n in
      omega (arith, none, rest)
]

-- and one between p and q makes the count to q greater
pub rank-more : (at : ℕ → ℕ) (p q n c : ℕ) → c < n → p ≤ at c → at c < q → suc (rank at p n) ≤ rank at q n
rank-more at p q zero c below h l = absurd (omega (arith, below))
rank-more at p q (suc n) c below h l = elim (dec_lt c n) [
  | yes early ↦
      let one = more-by (nat_lt (at n) p) (nat_lt (at n) q) (at n) p q refl refl (omega (arith, h, l)) in
      let rest = rank-more at p q n c early h l in
      omega (arith, one, rest)
  | no late ↦
      let same : c ≡ n = omega (arith, below, late) in
      let none = none-at (nat_lt (at n) p) (at n) p refl (omega (arith, h, ap at same)) in
      let some = some-at (nat_lt (at n) q) (at n) q refl (omega (arith, l, ap at same)) in
      let rest = rank-grows at p q n (omega (arith, h, l)) in
      omega (arith, none, some, rest)
]
