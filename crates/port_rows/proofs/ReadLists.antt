-- What is read of lists that are made in other ways.
use Rattle.std.proofs.Common.{◌≡◌, ℕ, zero, suc, ◌+◌, ◌<◌, List, [], ◌∷◌, ◌++◌, length, map, get_or, refl, sym, ap, ◌∙◌, arith}
use Rattle.std.specs.List.{range_with_len}
use Rattle.std.proofs.lemmas.List.{map-append}
use Rattle.interference.proofs.Members.{range-more}

module _ {A : Type 0} where
  pub at_old : (xs ys : List A) (k : ℕ) (d : A) → k < length xs → get_or (xs ++ ys) k d ≡ get_or xs k d
  at_old [] ys k d lt = absurd (omega arith)
  at_old (x ∷ xs) ys zero d lt = refl
  at_old (x ∷ xs) ys (suc k) d lt = at_old xs ys k d (omega arith)

  pub at_new : (xs : List A) (y d : A) (k : ℕ) → k ≡ length xs → get_or (xs ++ y ∷ []) k d ≡ y
  at_new [] y d zero is = refl
  at_new [] y d (suc k) is = absurd (omega arith)
  at_new (x ∷ xs) y d zero is = absurd (omega arith)
  at_new (x ∷ xs) y d (suc k) is = at_new xs y d k (omega arith)

-- a list that is given place by place, and one place more
pub range_next : {B : Type 0} (g : ℕ → B) (n : ℕ) → map g (range_with_len 0 (n + 1)) ≡ map g (range_with_len 0 n) ++ g n ∷ []
range_next g n =
    let more : n + 1 ≡ suc n = omega arith in
    let last : 0 + n ≡ n = omega arith in
    ap (λ k. map g (range_with_len 0 k)) more ∙ ap (map g) (range-more 0 n) ∙ map-append g (range_with_len 0 n) ((0 + n) ∷ [])
    ∙ ap (λ k. map g (range_with_len 0 n) ++ g k ∷ []) last

-- a list and one with the same images still have them after a push to each
pub both_pushed : {A B C : Type 0} (f : A → C) (g : B → C) (xs new : List A) (ys : List B) (x : A) (y : B) → new ≡ xs ++ x ∷ [] → f x ≡ g y
    → map f xs ≡ map g ys → map f new ≡ map g (ys ++ y ∷ [])
both_pushed f g xs new ys x y e same all =
    ap (map f) e ∙ map-append f xs (x ∷ []) ∙ (λ k. all k ++ same k ∷ []) ∙ sym (map-append g ys (y ∷ []))
