-- Vertices from the last one down.
use Rattle.std.proofs.Common.{◌≡◌, ℕ, suc, ◌+◌, List, [], ◌∷◌, ◌++◌, map, refl, sym, ap, ◌∙◌, arith}
use Rattle.std.specs.Prelude.{reverse}
use Rattle.std.specs.List.{range_with_len}
use Rattle.std.proofs.lemmas.List.{map-append, reverse-append}
use Rattle.interference.proofs.Members.{range-more}

moved : {A : Type 0} (xs ys : List A) (x : A) → (xs ++ x ∷ []) ++ ys ≡ xs ++ x ∷ ys
moved [] ys x = refl
moved (z ∷ xs) ys x = ap (λ l. z ∷ l) (moved xs ys x)

first_down : (m : ℕ) → reverse (range_with_len 1 (m + 1)) ≡ (m + 1) ∷ reverse (range_with_len 1 m)
first_down m =
    let more : m + 1 ≡ suc m = omega arith in
    let last : 1 + m ≡ m + 1 = omega arith in
    ap (λ k. reverse (range_with_len 1 k)) more ∙ ap reverse (range-more 1 m) ∙ reverse-append (range_with_len 1 m) ((1 + m) ∷ [])
    ∙ ap (λ k. k ∷ reverse (range_with_len 1 m)) last

-- the node of vertex m + 1 is there, and those of 1 to m are still to come
pub one_down : {A : Type 0} (f : A → ℕ) (all new : List A) (x : A) (m n : ℕ) (goal : List ℕ) → new ≡ all ++ x ∷ [] → f x ≡ n → n ≡ m + 1
    → map f all ++ reverse (range_with_len 1 n) ≡ goal → map f new ++ reverse (range_with_len 1 m) ≡ goal
one_down f all new x m n goal more is next so_far =
    ap (λ l. map f l ++ reverse (range_with_len 1 m)) more
    ∙ ap (λ l. l ++ reverse (range_with_len 1 m)) (map-append f all (x ∷ []))
    ∙ moved (map f all) (reverse (range_with_len 1 m)) (f x)
    ∙ ap (λ k. map f all ++ k ∷ reverse (range_with_len 1 m)) (is ∙ next)
    ∙ ap (λ l. map f all ++ l) (sym (first_down m) ∙ ap (λ k. reverse (range_with_len 1 k)) (sym next))
    ∙ so_far
