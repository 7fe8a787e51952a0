-- The numbers from one on, taken in by a function, and one more of them.
use Rattle.std.proofs.Common.{◌≡◌, ◌∙◌, ◌+◌, ◌++◌, ℕ, zero, suc, List, ap, append_assoc, append-nil, add-one, arith, sym}
use Rattle.std.specs.List.{flat_map, range_with_len}

more : (f : ℕ → List ℕ) (a n : ℕ) → flat_map f (range_with_len a (suc n)) ≡ flat_map f (range_with_len a n) ++ f (a + n)
more f a zero =
    let same : a ≡ a + 0 = omega arith in append-nil (f a) ∙ ap f same
more f a (suc n) =
    let same : a + 1 + n ≡ a + suc n = omega arith in
    ap (λ xs. f a ++ xs) (more f (a + 1) n ∙ ap (λ k. flat_map f (range_with_len (a + 1) n) ++ f k) same)
    ∙ sym (append_assoc (f a) (flat_map f (range_with_len (a + 1) n)) (f (a + suc n)))

-- a text of the numbers from a on, and one more
pub texts-more : (f : ℕ → List ℕ) (a n k : ℕ) (front so_far next : List ℕ) → a + n ≡ k → so_far ≡ front ++ flat_map f (range_with_len a n) →
    next ≡ so_far ++ f k → next ≡ front ++ flat_map f (range_with_len a (n + 1))
texts-more f a n k front so_far next same e is =
    is ∙ ap (λ j. so_far ++ f j) (sym same) ∙ ap (λ xs. xs ++ f (a + n)) e ∙ append_assoc front (flat_map f (range_with_len a n)) (f (a + n))
    ∙ ap (λ xs. front ++ xs) (sym (ap (λ j. flat_map f (range_with_len a j)) (add-one n) ∙ more f a n))

-- a text behind what was put behind another
pub behind : (t front more next new : List ℕ) → next ≡ t ++ front → new ≡ next ++ more → new ≡ t ++ (front ++ more)
behind t front more next new e is = is ∙ ap (λ x. x ++ more) e ∙ append_assoc t front more
