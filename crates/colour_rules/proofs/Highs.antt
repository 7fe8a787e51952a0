-- Whether any of a list passes a test, from what each of it does.
use Rattle.std.proofs.Common.{◌≡◌, ℕ, zero, suc, ◌<◌, Bool, true, false, List, [], ◌∷◌, length, refl, arith}
use Rattle.std.specs.Prelude.{slice_index}
use Rattle.std.specs.List.{list_any}
use Rattle.std.proofs.lemmas.Bool.{or_right, or_left, or_from}

-- one that passes
pub any-at : (test : ℕ → Bool) (xs : List ℕ) (i : ℕ) → i < length xs → test (slice_index xs i) ≡ true → list_any test xs ≡ true
any-at test [] i h e = absurd (omega arith)
any-at test (x ∷ xs) zero h e = or_left (test x) (list_any test xs) e
any-at test (x ∷ xs) (suc i) h e = or_right (test x) (list_any test xs) (any-at test xs i (omega arith) e)

-- none that passes
pub any-none : (test : ℕ → Bool) (xs : List ℕ) → ((i : ℕ) → i < length xs → test (slice_index xs i) ≡ false) → list_any test xs ≡ false
any-none test [] none = refl
any-none test (x ∷ xs) none = or_from (test x) (list_any test xs) (none 0 (omega arith)) (any-none test xs (λ i h. none (suc i) (omega arith)))
