-- Place and rank: in an ascending list as many entries have a lower key than an entry as stand before it.
use Rattle.std.proofs.Common.{◌≡◌, ℕ, zero, suc, ◌<◌, Bool, true, false, List, [], ◌∷◌, length, get_or, refl, ap, sym, ◌∙◌, arith}
use Rattle.std.specs.Prelude.{cond, filter, nat_lt, count_by, ◌&&◌}
use Rattle.std.specs.List.{All}
use Rattle.std.specs.List.Sorted.{IsPermutation}
use Rattle.std.proofs.lemmas.Bool.{lt-ltb, le-ltb}
use Rattle.std.proofs.lemmas.List.Elements.{All-weaker}
use Rattle.std.proofs.lemmas.List.Sums.{length-filter}
use Rattle.std.proofs.lemmas.List.Sorted.{sum_by-IsPermutation}
use Rattle.interference.proofs.BarCounts.{filter-none}
use Rattle.forests.specs.Order.{IsAscendingBy}
use Rattle.forests.proofs.Orders.{pairs-head, pairs-tail}

lower-count : {X : Type 0} (key : X → ℕ) (xs : List X) (k : ℕ) (d : X) → IsAscendingBy key xs → k < length xs →
    length (filter (λ x. nat_lt (key x) (key (get_or xs k d))) xs) ≡ k
lower-count key [] k d up h = absurd (omega arith)
lower-count key (x ∷ xs) zero d up h =
    let here : nat_lt (key x) (key x) ≡ false = le-ltb (key x) (key x) (omega arith) in
    let later : All (λ y. nat_lt (key y) (key x) ≡ false) xs = All-weaker (λ y. key x < key y) (λ y. nat_lt (key y) (key x) ≡ false)
    (λ y l. le-ltb (key y) (key x) (omega arith)) xs (pairs-head (λ a b. key a < key b) x xs up) in
    rw here (ap length (filter-none (λ y. nat_lt (key y) (key x)) xs later))
lower-count key (x ∷ xs) (suc k) d up h =
    let here : nat_lt (key x) (key (get_or xs k d)) ≡ true = lt-ltb (key x) (key (get_or xs k d)) (up 0 (suc k) d (omega arith) h) in
    rw here (ap suc (lower-count key xs k d (pairs-tail (λ a b. key a < key b) x xs up) (omega arith)))

-- in an ascending list
pub rank-at : {X : Type 0} (key : X → ℕ) (xs : List X) (k : ℕ) (d : X) → IsAscendingBy key xs → k < length xs →
    count_by (λ x. nat_lt (key x) (key (get_or xs k d))) xs ≡ k
rank-at key xs k d up h = sym (length-filter (λ x. nat_lt (key x) (key (get_or xs k d))) xs) ∙ lower-count key xs k d up h

-- in a list before it is put in order
pub count-moved : {X : Type 0} (test : X → Bool) (xs ys : List X) → IsPermutation xs ys → count_by test ys ≡ count_by test xs
count-moved test xs ys moved = sum_by-IsPermutation (λ x. cond (test x) 1 0) xs ys moved

kept-twice : {X : Type 0} (a b : Bool) (x : X) (once twice both : List X) (test : X → Bool) → test x ≡ b → twice ≡ both → filter test once ≡ twice →
    filter test (cond a (x ∷ once) once) ≡ cond (a && b) (x ∷ both) both
kept-twice true true x once twice both test is same kept = rw is (ap (λ ys. x ∷ ys) (kept ∙ same))
kept-twice true false x once twice both test is same kept = rw is (kept ∙ same)
kept-twice false b x once twice both test is same kept = kept ∙ same

filter-twice : {X : Type 0} (first then : X → Bool) (xs : List X) → filter then (filter first xs) ≡ filter (λ x. first x && then x) xs
filter-twice first then [] = refl
filter-twice first then (x ∷ xs) = kept-twice (first x) (then x) x (filter first xs) (filter then (filter first xs)) (filter (λ y. first y && then y) xs) then
    refl (filter-twice first then xs) refl

-- in a list before it is filtered
pub count-filtered : {X : Type 0} (first then : X → Bool) (xs : List X) → count_by then (filter first xs) ≡ count_by (λ x. first x && then x) xs
count-filtered first then xs = sym (length-filter then (filter first xs)) ∙ (ap length (filter-twice first then xs) ∙ length-filter (λ x. first x && then x) xs)
