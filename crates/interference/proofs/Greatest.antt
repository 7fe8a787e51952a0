-- The greatest of many numbers, and the longest of many lists: a bound, and one that reaches it.
use Rattle.std.proofs.Common.{◌≡◌, ◌⊎◌, inl, inr, ℕ, zero, suc, ◌+◌, ◌<◌, ◌≤◌, List, [], ◌∷◌, length, get_or, ap, arith}
use Rattle.std.proofs.lemmas.Bool.{cases_eq, cases_lt}
use Rattle.interference.specs.Net.{longest, greatest_from}

pub longest-holds : (rows : List (List ℕ)) (i : ℕ) → length (get_or rows i []) ≤ longest rows
longest-holds [] i = omega arith
longest-holds (row ∷ rows) zero = omega arith
longest-holds (row ∷ rows) (suc i) = let more : length (get_or rows i []) ≤ longest rows = longest-holds rows i in omega arith

pub longest-within : (rows : List (List ℕ)) (m : ℕ) → ((i : ℕ) → i < length rows → length (get_or rows i []) ≤ m) → longest rows ≤ m
longest-within [] m each = omega arith
longest-within (row ∷ rows) m each =
    let first : length row ≤ m = each 0 (omega arith) in
    let rest : longest rows ≤ m = longest-within rows m (λ i below. each (suc i) (omega arith)) in
    omega arith

pub longest-reached : (rows : List (List ℕ)) → 0 < length rows → (i : ℕ) × (i < length rows) × (length (get_or rows i []) ≡ longest rows)
longest-reached [] some = absurd (omega arith)
longest-reached (row ∷ []) some = (0, omega arith, omega arith)
longest-reached (row ∷ next ∷ rows) some = choose (cases_lt (length row) (longest (next ∷ rows))) (longest-reached (next ∷ rows) (omega arith))
  where
    choose : (length row < longest (next ∷ rows)) ⊎ (longest (next ∷ rows) ≤ length row) → (i : ℕ) × (i < length (next ∷ rows)) ×
        (length (get_or (next ∷ rows) i []) ≡ longest (next ∷ rows)) → (i : ℕ) × (i < length (row ∷ next ∷ rows)) ×
        (length (get_or (row ∷ next ∷ rows) i []) ≡ longest (row ∷ next ∷ rows))
    choose (inl later) (i, below, is) = (suc i, omega arith, omega arith)
    choose (inr here) more = (0, omega arith, omega arith)

pub greatest-holds : (f : ℕ → ℕ) (v n u : ℕ) → v ≤ u → u < v + n → f u ≤ greatest_from f v n
greatest-holds f v zero u low high = absurd (omega arith)
greatest-holds f v (suc n) u low high =
    elim (cases_eq u v) [
      | inl same ↦ let e : f u ≡ f v = ap f same in omega arith
      | inr other ↦ let more : f u ≤ greatest_from f (v + 1) n = greatest-holds f (v + 1) n u (omega arith) (omega arith) in omega arith
    ]

pub greatest-within : (f : ℕ → ℕ) (v n m : ℕ) → ((u : ℕ) → v ≤ u → u < v + n → f u ≤ m) → greatest_from f v n ≤ m
greatest-within f v zero m each = omega arith
greatest-within f v (suc n) m each =
    let first : f v ≤ m = each v (omega arith) (omega arith) in
    let rest : greatest_from f (v + 1) n ≤ m = greatest-within f (v + 1) n m (λ u low high. each u (omega arith) (omega arith)) in
    omega arith

pub greatest-reached : (f : ℕ → ℕ) (v n : ℕ) → 0 < n → (u : ℕ) × (v ≤ u) × (u < v + n) × (f u ≡ greatest_from f v n)
greatest-reached f v zero some = absurd (omega arith)
greatest-reached f v (suc zero) some = (v, omega arith, omega arith, omega arith)
greatest-reached f v (suc (suc n)) some = choose (cases_lt (f v) (greatest_from f (v + 1) (suc n))) (greatest-reached f (v + 1) (suc n) (omega arith))
  where
    choose : (f v < greatest_from f (v + 1) (suc n)) ⊎ (greatest_from f (v + 1) (suc n) ≤ f v) → (u : ℕ) × (v + 1 ≤ u) × (u < v + 1 + suc n) ×
        (f u ≡ greatest_from f (v + 1) (suc n)) → (u : ℕ) × (v ≤ u) × (u < v + suc (suc n)) × (f u ≡ greatest_from f v (suc (suc n)))
    choose (inl later) (u, low, high, is) = (u, omega arith, omega arith, omega arith)
    choose (inr here) more = (v, omega arith, omega arith, omega arith)
