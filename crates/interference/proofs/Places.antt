-- The place of a number in a list.
use Rattle.std.proofs.Common.{◌≡◌, ℕ, zero, suc, ◌<◌, ◌≤◌, List, [], ◌∷◌, length, get_or, arith}
use Rattle.std.proofs.lemmas.Bool.Decides.{nat_tests}
use Rattle.interference.specs.Net.{place_of}

pub place_found : (v : ℕ) (xs : List ℕ) (k : ℕ) → k < length xs → get_or xs k 0 ≡ v → place_of v xs ≤ k
place_found v [] k h e = absurd (omega arith)
place_found v (y ∷ ys) zero h e = grind (arith, nat_tests)
place_found v (y ∷ ys) (suc k) h e = let more : place_of v ys ≤ k = place_found v ys k (omega arith) e in grind (arith, nat_tests)
