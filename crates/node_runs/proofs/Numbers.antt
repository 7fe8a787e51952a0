-- The vertices of a network, and their numbers from 0.
use Rattle.std.proofs.Common.{◌≡◌, ℕ, zero, suc, ◌+◌, ◌-◌, ◌≤◌, List, [], ◌∷◌, length, map, reverse, refl, ap, ◌∙◌, arith}
use Rattle.std.specs.List.{range_with_len}
use Rattle.std.proofs.lemmas.List.{length-map, length-reverse}
use Rattle.std.proofs.lemmas.List.FromFn.{length-range_with_len}
use Rattle.deque_rule.specs.Ledgers.{AreSame, weigh}
use Rattle.deque_rule.proofs.Rule.{weigh-reverse}

suc_range : (a n : ℕ) → map (λ k. k + 1) (range_with_len a n) ≡ range_with_len (a + 1) n
suc_range a zero = refl
suc_range a (suc n) = ap (λ l. (a + 1) ∷ l) (suc_range (a + 1) n)

-- a weight of numbers one less
one_less_weighs : (h : ℕ → ℕ) (a n : ℕ) → weigh (λ k. h (k - 1)) (range_with_len (a + 1) n) ≡ weigh h (range_with_len a n)
one_less_weighs h a zero = refl
one_less_weighs h a (suc n) =
    let e = one_less_weighs h (a + 1) n in
    let here : h (a + 1 - 1) ≡ h a = ap h (omega arith) in
    omega arith

module _ {A : Type 0} (f : A → ℕ) where
  weighs_so : (h : ℕ → ℕ) (xs : List A) → weigh h (map (λ x. f x - 1) xs) ≡ weigh (λ k. h (k - 1)) (map f xs)
  weighs_so h [] = refl
  weighs_so h (x ∷ xs) = let e = weighs_so h xs in omega arith

  -- as many things as vertices
  pub as_many : (xs : List A) (n : ℕ) → map f xs ≡ reverse (range_with_len 1 n) → length xs ≡ n
  as_many xs n down =
      let e = ap length down in
      omega (arith, length-map xs f, length-reverse (range_with_len 1 n), length-range_with_len 1 n)

  -- from the last vertex down, the numbers are those below the count, each once
  pub from_the_last : (xs : List A) (n count : ℕ) → count ≡ n → map f xs ≡ reverse (range_with_len 1 n)
      → AreSame (map (λ x. f x - 1) xs) (range_with_len 0 count)
  from_the_last xs n count is down h =
      weighs_so h xs ∙ ap (weigh (λ k. h (k - 1))) down ∙ weigh-reverse (λ k. h (k - 1)) (range_with_len 1 n)
      ∙ one_less_weighs h 0 n ∙ ap (λ m. weigh h (range_with_len 0 m)) (omega arith)

  module _ (low : (x : A) → 1 ≤ f x) where
    one_less : (xs : List A) → map f xs ≡ map (λ k. k + 1) (map (λ x. f x - 1) xs)
    one_less [] = refl
    one_less (x ∷ xs) = ap (λ l. f x ∷ l) (one_less xs) ∙ ap (λ k. k ∷ map (λ k. k + 1) (map (λ x. f x - 1) xs)) (omega (arith, low x))

    -- numbers from 0, ascending, are vertices from 1, ascending
    pub from_one : (xs : List A) (n count : ℕ) → count ≡ n → map (λ x. f x - 1) xs ≡ range_with_len 0 count → map f xs ≡ range_with_len 1 n
    from_one xs n count is order =
        one_less xs ∙ ap (map (λ k. k + 1)) order ∙ suc_range 0 count ∙ ap (range_with_len 1) is
