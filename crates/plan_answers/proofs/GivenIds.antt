-- The identifiers of vertices, as they are written into the numbers one by one, from the last to the first.
use Rattle.std.proofs.Common.{◌≡◌, ◌<◌, ◌≤◌, ◌+◌, ℕ, suc, zero, List, [], ◌∷◌, ◌-◌, ap, arith, map, refl, set, sym, ◌∙◌}
use Rattle.std.specs.List.{range_with_len}
use Rattle.std.specs.Option.{unwrap_or}
use Rattle.std.proofs.lemmas.Bool.{eq-eqb, ne_eqb}
use Rattle.dimacs_col.specs.Reading.{id_in}
use Rattle.plan_answers.specs.Answers.{identifiers_with}

-- nothing given leaves the numbers
pub none-given : (vs : List ℕ) → map (λ v. unwrap_or (id_in [] v) v) vs ≡ vs
none-given [] = refl
none-given (v ∷ vs) = ap (λ xs. v ∷ xs) (none-given vs)

-- two functions that are the same from a on
same-from : (f g : ℕ → ℕ) (a n : ℕ) → ((w : ℕ) → a ≤ w → f w ≡ g w) → map f (range_with_len a n) ≡ map g (range_with_len a n)
same-from f g a zero same = refl
same-from f g a (suc n) same =
    rw (same a (omega arith)) (ap (λ xs. g a ∷ xs) (same-from f g (a + 1) n (λ w low. same w (omega arith))))

-- a value put at one place
put-at : (f g : ℕ → ℕ) (a n k id : ℕ) → k < n → g (a + k) ≡ id → ((w : ℕ) → (w ≡ a + k → ⊥) → f w ≡ g w) →
    set (map f (range_with_len a n)) k id ≡ map g (range_with_len a n)
put-at f g a zero k id low is same = absurd (omega arith)
put-at f g a (suc n) zero id low is same =
    let here : a + 0 ≡ a = omega arith in
    let head : g a ≡ id = ap g (sym here) ∙ is in
    rw head (ap (λ xs. id ∷ xs) (same-from f g (a + 1) n (λ w high. same w (λ e. omega arith))))
put-at f g a (suc n) (suc k) id low is same =
    let next : a + suc k ≡ (a + 1) + k = omega arith in
    rw (same a (λ e. omega arith)) (ap (λ xs. g a ∷ xs) (put-at f g (a + 1) n k id (omega arith) (ap g (sym next) ∙ is)
    (λ w apart. same w (λ e. apart (e ∙ next)))))

-- the identifier of a vertex put before those that are given
pub one-given : (ids : List (ℕ × ℕ)) (nodes v id : ℕ) → 0 < v → v ≤ nodes →
    set (identifiers_with ids nodes) (v - 1) id ≡ identifiers_with ((v, id) ∷ ids) nodes
one-given ids nodes v id low high =
    let place : 1 + (v - 1) ≡ v = omega arith in
    put-at (λ w. unwrap_or (id_in ids w) w) (λ w. unwrap_or (id_in ((v, id) ∷ ids) w) w) 1 nodes (v - 1) id (omega arith)
    (rw place (rw (eq-eqb v v refl) refl))
    (λ w apart. rw (ne_eqb w v (λ e. apart (e ∙ sym place))) refl)
