-- The bits of two sets put together.
use Rattle.std.proofs.Common.{◌≡◌, ℕ, zero, suc, ◌<◌, ◌/◌, ◌%◌, ◌==◌, List, length, get_or, bit_or, refl, ap, sym, ◌∙◌, arith}
use Rattle.std.specs.Prelude.{◌||◌, max}
use Rattle.std.proofs.lemmas.List.{get_or_past}
use native.Mathlib.Decide.{dec_lt}
use Prim.{yes, no}
use Rattle.std.specs.Int.{bit_at}
use Rattle.std.proofs.lemmas.Nat.Bits.{bit_at_or, bit_at-lt}
use Rattle.colour_base.specs.Words.{has_bit}

max_one : (x y : ℕ) → x < 2 → y < 2 → (max x y == 1) ≡ ((x == 1) || (y == 1))
max_one zero zero a b = refl
max_one zero (suc zero) a b = refl
max_one (suc zero) zero a b = refl
max_one (suc zero) (suc zero) a b = refl
max_one (suc (suc x)) y a b = absurd (omega arith)
max_one x (suc (suc y)) a b = absurd (omega arith)

pub bit_of_both : (xs ys zs : List ℕ) (c : ℕ) → get_or zs (c / 64) 0 ≡ bit_or (get_or xs (c / 64) 0) (get_or ys (c / 64) 0)
    → has_bit zs c ≡ (has_bit xs c || has_bit ys c)
unfolding has_bit
bit_of_both xs ys zs c e =
    let a = get_or xs (c / 64) 0 in
    let b = get_or ys (c / 64) 0 in
    ap (λ w. bit_at w (c % 64) == 1) e ∙ ap (λ x. x == 1) (bit_at_or a b (c % 64))
    ∙ max_one (bit_at a (c % 64)) (bit_at b (c % 64)) (bit_at-lt a (c % 64)) (bit_at-lt b (c % 64))

-- past the ends there is no bit
pub words_of_both : (n : ℕ) (xs ys zs : List ℕ) → length xs ≡ n → length ys ≡ n → length zs ≡ n
    → ((j : ℕ) → j < n → get_or zs j 0 ≡ bit_or (get_or xs j 0) (get_or ys j 0)) → (j : ℕ) → get_or zs j 0 ≡ bit_or (get_or xs j 0) (get_or ys j 0)
words_of_both n xs ys zs a b c done j = elim (dec_lt j n) [
  | yes lt ↦ done j lt
  | no past ↦ (let x = get_or_past xs j 0 (omega arith) in
      let y = get_or_past ys j 0 (omega arith) in
      get_or_past zs j 0 (omega arith) ∙ sym (ap (λ w. bit_or w (get_or ys j 0)) x ∙ ap (bit_or 0) y))
]
