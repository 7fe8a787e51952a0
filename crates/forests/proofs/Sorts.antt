-- A sort gives the list in order, and the order of a list that a function made is made of the order:
-- 1. distinct keys stay distinct when entries move (`keys-moved`), so a list that does not fall ascends;
-- 2. `put_in_order` and `in_order` go through `map` (`order-map`).
use Rattle.std.proofs.Common.{◌≡◌, ◌≢◌, ℕ, ◌<◌, ◌≤◌, Bool, true, false, List, [], ◌∷◌, length, get_or, refl, ap, sym, ◌∙◌, arith}
use Rattle.std.specs.Prelude.{if◌then◌else◌, map, nat_lt, nat_eq}
use Rattle.std.specs.List.{AllPairs, IsDistinct}
use Rattle.std.specs.List.Sorted.{IsPermutation, IsNonDecreasingBy}
use Rattle.std.proofs.lemmas.Bool.Decides.{nat_tests, Decides-eqb}
use Rattle.std.proofs.lemmas.List.{get_or-map, length-map}
use Rattle.std.proofs.lemmas.List.Sorted.{IsPermutation-map}
use Rattle.std.proofs.lemmas.Map.Keys.{IsDistinct-IsPermutation}
use Rattle.std.proofs.lemmas.Map.Made.{AllPairs-from_IsDistinct, IsDistinct-from_AllPairs}
use Rattle.forests.specs.Order.{put_in_order, in_order, IsAscendingBy, HasDistinctKeys}
use Rattle.forests.proofs.Orders.{ascending-is_in_order}

-- A sort: distinct keys stay so when entries move, so that a list that doesn't fall ascends.
pub keys-apart : {X : Type 0} (key : X → ℕ) (xs : List X) → HasDistinctKeys key xs → AllPairs (λ a b. a ≢ b) (map key xs)
keys-apart key [] apart = λ i j d l m. absurd (omega arith)
keys-apart key (x ∷ xs) apart = λ i j d l m same.
    let long : j < length (x ∷ xs) = rw (length-map (x ∷ xs) key) at m in
    apart i j x l long (sym (get_or-map key (x ∷ xs) i x d (omega arith)) ∙ (same ∙ get_or-map key (x ∷ xs) j x d long))

apart-from_keys : {X : Type 0} (key : X → ℕ) (xs : List X) → AllPairs (λ a b. a ≢ b) (map key xs) → HasDistinctKeys key xs
apart-from_keys key xs keys = λ i j d l m same.
    keys i j 0 l (rw (length-map xs key) m) (get_or-map key xs i d 0 (omega arith) ∙ (same ∙ sym (get_or-map key xs j d 0 m)))

flips : (x y : ℕ) → nat_eq x y ≡ nat_eq y x
flips x y = grind (arith, nat_tests)

keys-moved : {X : Type 0} (key : X → ℕ) (xs ys : List X) → IsPermutation xs ys → HasDistinctKeys key xs → HasDistinctKeys key ys
keys-moved key xs ys moved apart =
    let before : IsDistinct nat_eq (map key xs) = IsDistinct-from_AllPairs Decides-eqb (map key xs) (keys-apart key xs apart) in
    let after : IsDistinct nat_eq (map key ys) = IsDistinct-IsPermutation nat_eq flips (map key xs) (map key ys) (IsPermutation-map key xs ys moved) before in
    apart-from_keys key ys (AllPairs-from_IsDistinct Decides-eqb (map key ys) after)

pub sorted-is_in_order : {X : Type 0} (key : X → ℕ) (xs ys : List X) → HasDistinctKeys key xs → IsPermutation xs ys → IsNonDecreasingBy key ys →
    ys ≡ in_order key xs
sorted-is_in_order key xs ys apart moved rising =
    let other : HasDistinctKeys key ys = keys-moved key xs ys moved apart in
    let up : IsAscendingBy key ys = λ i j d l m. let le : key (get_or ys i d) ≤ key (get_or ys j d) = rising i j d (omega arith) m in
    let ne : key (get_or ys i d) ≢ key (get_or ys j d) = other i j d l m in omega arith in
    ascending-is_in_order key xs ys apart moved up

-- The order of a list that a function made.
put_if-map : {X Y : Type 0} (f : X → Y) (b : Bool) (x y : X) (more : List Y) (rest ys : List X) → more ≡ map f rest →
    (if b then f y ∷ more else f x ∷ f y ∷ map f ys) ≡ map f (if b then y ∷ rest else x ∷ y ∷ ys)
put_if-map f true x y more rest ys e = ap (λ zs. f y ∷ zs) e
put_if-map f false x y more rest ys e = refl

put-map : {X Y : Type 0} (key : Y → ℕ) (f : X → Y) (x : X) (ys : List X) → put_in_order key (f x) (map f ys) ≡ map f (put_in_order (λ z. key (f z)) x ys)
put-map key f x [] = refl
put-map key f x (y ∷ ys) = put_if-map f (nat_lt (key (f y)) (key (f x))) x y (put_in_order key (f x) (map f ys)) (put_in_order (λ z. key (f z)) x ys) ys
    (put-map key f x ys)

pub order-map : {X Y : Type 0} (key : Y → ℕ) (f : X → Y) (xs : List X) → in_order key (map f xs) ≡ map f (in_order (λ z. key (f z)) xs)
order-map key f [] = refl
order-map key f (x ∷ xs) = ap (λ zs. put_in_order key (f x) zs) (order-map key f xs) ∙ put-map key f x (in_order (λ z. key (f z)) xs)
