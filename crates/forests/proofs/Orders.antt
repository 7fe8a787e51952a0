-- A list in order has the same entries, its keys ascend, and no other list is so:
-- 1. `put_in_order` and `in_order` only move entries (`order-moves`);
-- 2. distinct keys then ascend (`order-ascends`);
-- 3. two ascending lists with the same entries are one (`ascending-same`, `ascending-is_in_order`).
use Rattle.std.proofs.Common.{◌≡◌, ◌≢◌, ℕ, zero, suc, ◌<◌, ◌≤◌, Bool, true, false, List, [], ◌∷◌, length, get_or, refl, ap, sym, arith, subst, inl, inr}
use Rattle.std.specs.Prelude.{◌⊎◌, if◌then◌else◌, nat_lt}
use Rattle.std.specs.List.{All, AllPairs, Contains}
use Rattle.std.specs.List.Sorted.{IsPermutation}
use Rattle.std.proofs.lemmas.Bool.Decides.{nat_tests}
use Rattle.std.proofs.lemmas.Bool.{cases_order}
use Rattle.std.proofs.lemmas.List.Elements.{All-cons, All-weaker}
use Rattle.std.proofs.lemmas.List.Kept.{AllPairs-cons}
use Rattle.std.proofs.lemmas.List.Sorted.{IsPermutation-refl, IsPermutation-cons, IsPermutation-trans, IsPermutation-sym, IsPermutation-swap}
use Rattle.std.proofs.lemmas.List.Sorted.{Contains-permutation, All-permutation}
use Rattle.interference.proofs.Members.{Contains-tail}
use Rattle.forests.specs.Order.{put_in_order, in_order, IsAscendingBy, HasDistinctKeys}

first-two : {X : Type 0} (x y : X) (ys : List X) → IsPermutation (x ∷ y ∷ ys) (y ∷ x ∷ ys)
first-two x y ys = IsPermutation-swap (x ∷ y ∷ ys) (y ∷ x ∷ ys) 0 1 (omega arith) (omega arith) refl

put_if-moves : {X : Type 0} (b : Bool) (x y : X) (more ys : List X) → IsPermutation (x ∷ ys) more →
    IsPermutation (x ∷ y ∷ ys) (if b then y ∷ more else x ∷ y ∷ ys)
put_if-moves true x y more ys moved = IsPermutation-trans (x ∷ y ∷ ys) (y ∷ x ∷ ys) (y ∷ more) (first-two x y ys) (IsPermutation-cons y (x ∷ ys) more moved)
put_if-moves false x y more ys moved = IsPermutation-refl (x ∷ y ∷ ys)

pub put-moves : {X : Type 0} (key : X → ℕ) (x : X) (ys : List X) → IsPermutation (x ∷ ys) (put_in_order key x ys)
put-moves key x [] = IsPermutation-refl (x ∷ [])
put-moves key x (y ∷ ys) = put_if-moves (nat_lt (key y) (key x)) x y (put_in_order key x ys) ys (put-moves key x ys)

pub order-moves : {X : Type 0} (key : X → ℕ) (xs : List X) → IsPermutation xs (in_order key xs)
order-moves key [] = IsPermutation-refl []
order-moves key (x ∷ xs) = IsPermutation-trans (x ∷ xs) (x ∷ in_order key xs) (in_order key (x ∷ xs))
    (IsPermutation-cons x xs (in_order key xs) (order-moves key xs)) (put-moves key x (in_order key xs))

pub pairs-head : {X : Type 0} (R : X → X → Type 0) (x : X) (xs : List X) → AllPairs R (x ∷ xs) → All (R x) xs
pairs-head R x xs h = λ k d l. h 0 (suc k) d (omega arith) (omega arith)

pub pairs-tail : {X : Type 0} (R : X → X → Type 0) (x : X) (xs : List X) → AllPairs R (x ∷ xs) → AllPairs R xs
pairs-tail R x xs h = λ i j d l m. h (suc i) (suc j) d (omega arith) (omega arith)

-- Putting x among ascending entries of other keys.
put_if-ascends : {X : Type 0} (key : X → ℕ) (b : Bool) (x y : X) (more ys : List X) → b ≡ nat_lt (key y) (key x) → key x ≢ key y →
    IsAscendingBy key (y ∷ ys) → IsAscendingBy key more → IsPermutation (x ∷ ys) more → IsAscendingBy key (if b then y ∷ more else x ∷ y ∷ ys)
put_if-ascends key true x y more ys test apart up rest moved =
    let below : key y < key x = grind (arith, nat_tests) in
    let all : All (λ z. key y < key z) (x ∷ ys) = All-cons (λ z. key y < key z) x ys below (pairs-head (λ a b. key a < key b) y ys up) in
    AllPairs-cons (λ a b. key a < key b) y more (All-permutation (λ z. key y < key z) (x ∷ ys) more moved all) rest
put_if-ascends key false x y more ys test apart up rest moved =
    let below : key x < key y = grind (arith, nat_tests) in
    let later : All (λ z. key x < key z) ys = All-weaker (λ z. key y < key z) (λ z. key x < key z) (λ z l. omega arith) ys
    (pairs-head (λ a b. key a < key b) y ys up) in
    AllPairs-cons (λ a b. key a < key b) x (y ∷ ys) (All-cons (λ z. key x < key z) y ys below later) up

pub put-ascends : {X : Type 0} (key : X → ℕ) (x : X) (ys : List X) → IsAscendingBy key ys → All (λ y. key x ≢ key y) ys →
    IsAscendingBy key (put_in_order key x ys)
put-ascends key x [] up apart = λ i j d l m. absurd (omega arith)
put-ascends key x (y ∷ ys) up apart =
    put_if-ascends key (nat_lt (key y) (key x)) x y (put_in_order key x ys) ys refl (apart 0 y (omega arith)) up
    (put-ascends key x ys (pairs-tail (λ a b. key a < key b) y ys up) (λ k d l. apart (suc k) d (omega arith)))
    (put-moves key x ys)

pub order-ascends : {X : Type 0} (key : X → ℕ) (xs : List X) → HasDistinctKeys key xs → IsAscendingBy key (in_order key xs)
order-ascends key [] apart = λ i j d l m. absurd (omega arith)
order-ascends key (x ∷ xs) apart =
    put-ascends key x (in_order key xs) (order-ascends key xs (pairs-tail (λ a b. key a ≢ key b) x xs apart))
    (All-permutation (λ y. key x ≢ key y) xs (in_order key xs) (order-moves key xs) (pairs-head (λ a b. key a ≢ key b) x xs apart))

-- Two ascending lists with the same entries are one.
abbrev HasAll : {X : Type 0} → List X → List X → Type 0
HasAll {X} xs ys = (x : X) → Contains xs x → Contains ys x

at_head : {X : Type 0} (x : X) (xs : List X) → Contains (x ∷ xs) x
at_head x xs = (0, omega arith, refl)

-- an entry of an ascending list is the first one or above it
head_or_above : {X : Type 0} (key : X → ℕ) (x y : X) (ys : List X) → IsAscendingBy key (y ∷ ys) → Contains (y ∷ ys) x →
    (y ≡ x) ⊎ (Contains ys x × (key y < key x))
head_or_above key x y ys up (zero, below, is) = inl is
head_or_above key x y ys up (suc k, below, is) =
    let l : k < length ys = omega arith in
    let above : key y < key (get_or ys k x) = up 0 (suc k) x (omega arith) below in
    inr ((k, l, is), subst (λ z. key y < key z) is above)

same_head : {X : Type 0} (key : X → ℕ) (x y : X) (xs ys : List X) → IsAscendingBy key (x ∷ xs) → IsAscendingBy key (y ∷ ys) → HasAll (x ∷ xs) (y ∷ ys) →
    HasAll (y ∷ ys) (x ∷ xs) → x ≡ y
same_head key x y xs ys up vp there back =
    elim (head_or_above key x y ys vp (there x (at_head x xs))) [
      | inl same ↦ sym same
      | inr above ↦ elim (head_or_above key y x xs up (back y (at_head y ys))) [
        | inl same ↦ same
        | inr below ↦ absurd (omega (arith, above.1, below.1))
      ]
    ]

-- with one head, the tails have the same entries
tail-has : {X : Type 0} (key : X → ℕ) (x : X) (xs ys : List X) → IsAscendingBy key (x ∷ xs) → IsAscendingBy key (x ∷ ys) → HasAll (x ∷ xs) (x ∷ ys) →
    HasAll xs ys
tail-has key x xs ys up vp there z h =
    elim (head_or_above key z x ys vp (there z (Contains-tail z x xs h))) [
      | inl same ↦ let above : key x < key z = subst (λ u. key x < key u) h.2 (up 0 (suc h.0) z (omega arith) (omega (arith, h.1))) in
          absurd (let e : key x ≡ key z = ap key same in omega arith)
      | inr more ↦ more.0
    ]

pub ascending-same : {X : Type 0} (key : X → ℕ) (xs ys : List X) → IsAscendingBy key xs → IsAscendingBy key ys → HasAll xs ys → HasAll ys xs → xs ≡ ys
ascending-same key [] [] up vp there back = refl
ascending-same key [] (y ∷ ys) up vp there back = let h : Contains [] y = back y (at_head y ys) in absurd (omega (arith, h.1))
ascending-same key (x ∷ xs) [] up vp there back = let h : Contains [] x = there x (at_head x xs) in absurd (omega (arith, h.1))
ascending-same key (x ∷ xs) (y ∷ ys) up vp there back =
    let same : x ≡ y = same_head key x y xs ys up vp there back in
    let vp2 : IsAscendingBy key (x ∷ ys) = subst (λ z. IsAscendingBy key (z ∷ ys)) (sym same) vp in
    let there2 : HasAll (x ∷ xs) (x ∷ ys) = subst (λ z. HasAll (x ∷ xs) (z ∷ ys)) (sym same) there in
    let back2 : HasAll (x ∷ ys) (x ∷ xs) = subst (λ z. HasAll (z ∷ ys) (x ∷ xs)) (sym same) back in
    let rest : xs ≡ ys = ascending-same key xs ys (pairs-tail (λ a b. key a < key b) x xs up) (pairs-tail (λ a b. key a < key b) x ys vp2)
    (tail-has key x xs ys up vp2 there2) (tail-has key x ys xs vp2 up back2) in
    cc

pub ascending-is_in_order : {X : Type 0} (key : X → ℕ) (xs ys : List X) → HasDistinctKeys key xs → IsPermutation xs ys → IsAscendingBy key ys →
    ys ≡ in_order key xs
ascending-is_in_order key xs ys apart moved up =
    let order : IsPermutation ys (in_order key xs) = IsPermutation-trans ys xs (in_order key xs) (IsPermutation-sym xs ys moved) (order-moves key xs) in
    ascending-same key ys (in_order key xs) up (order-ascends key xs apart) (λ x h. Contains-permutation ys (in_order key xs) x order h)
    (λ x h. Contains-permutation (in_order key xs) ys x (IsPermutation-sym ys (in_order key xs) order) h)

-- What an ascending list keeps.
pub ascending-apart : {X : Type 0} (key : X → ℕ) (xs : List X) → IsAscendingBy key xs → HasDistinctKeys key xs
ascending-apart key xs up = λ i j d l m. let h : key (get_or xs i d) < key (get_or xs j d) = up i j d l m in omega arith

pub ascending-rises : {X : Type 0} (key : X → ℕ) (xs : List X) (d : X) → IsAscendingBy key xs → (i j : ℕ) → i ≤ j → j < length xs →
    key (get_or xs i d) ≤ key (get_or xs j d)
ascending-rises key xs d up i j l m =
    elim (cases_order i j) [
      | inl same ↦ let e : key (get_or xs i d) ≡ key (get_or xs j d) = ap (λ k. key (get_or xs k d)) same in omega arith
      | inr side ↦ elim side [
        | inl below ↦ let h : key (get_or xs i d) < key (get_or xs j d) = up i j d below m in omega arith
        | inr above ↦ absurd (omega arith)
      ]
    ]
