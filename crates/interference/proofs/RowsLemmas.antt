-- What a row of a packed list is.
use Rattle.std.proofs.Common.{◌≡◌, ℕ, zero, suc, ◌+◌, ◌-◌, ◌<◌, ◌≤◌, List, [], ◌∷◌, length, get_or, take, drop, refl, arith, length-drop, length-take}
use Rattle.std.proofs.Common.{get_or-take, get_or-drop}
use Rattle.interference.specs.Rows.{rows}

pub row_at : (starts xs : List ℕ) (i : ℕ) → suc i < length starts →
    get_or (rows starts xs) i [] ≡ take (get_or starts (suc i) 0 - get_or starts i 0) (drop (get_or starts i 0) xs)
row_at [] xs i h = absurd (omega arith)
row_at (a ∷ []) xs i h = absurd (omega arith)
row_at (a ∷ b ∷ starts) xs zero h = refl
row_at (a ∷ b ∷ starts) xs (suc i) h = row_at (b ∷ starts) xs i (omega arith)

pub length-row : (starts xs : List ℕ) (i : ℕ) → suc i < length starts → get_or starts (suc i) 0 ≤ length xs → get_or starts i 0 ≤ length xs →
    length (get_or (rows starts xs) i []) ≡ get_or starts (suc i) 0 - get_or starts i 0
length-row starts xs i h top low = rw (row_at starts xs i h) (simp (length-take, length-drop) (omega arith))

pub get_or-row : (starts xs : List ℕ) (i k : ℕ) → suc i < length starts → k < get_or starts (suc i) 0 - get_or starts i 0 →
    get_or (get_or (rows starts xs) i []) k 0 ≡ get_or xs (get_or starts i 0 + k) 0
get_or-row starts xs i k h in_row = rw (row_at starts xs i h, get_or-take, get_or-drop)
