-- Where an entry stands in a list whose entries differ, and where none can stand.
use Rattle.std.proofs.Common.{◌≡◌, ◌≢◌, ℕ, ◌<◌, ◌≤◌, List, length, get_or, refl, ◌∙◌, arith}
use Rattle.std.specs.List.{AllPairs, Contains}
use Rattle.std.proofs.lemmas.List.{get_or_default}
use native.Mathlib.Decide.{dec_lt}
use Prim.{yes, no}
use Rattle.interference.specs.Net.{place_of}
use Rattle.interference.proofs.Places.{place_found}
use Rattle.interference.proofs.Members.{place_of-is}

-- where entries differ, the place of the one at k is k
pub place-at : (xs : List ℕ) (k : ℕ) → AllPairs (λ x y. x ≢ y) xs → k < length xs → place_of (get_or xs k 0) xs ≡ k
place-at xs k apart l =
    let low : place_of (get_or xs k 0) xs ≤ k = place_found (get_or xs k 0) xs k l refl in
    let is : get_or xs (place_of (get_or xs k 0) xs) 0 ≡ get_or xs k 0 = place_of-is (get_or xs k 0) xs 0 (omega arith) in
    let met : (place_of (get_or xs k 0) xs < k → ⊥) = λ below. apart (place_of (get_or xs k 0) xs) k 0 below l is in
    omega arith

-- x is not there where the entries before some place are below it and the others above it
pub not_there : (xs : List ℕ) (x i : ℕ) → ((k : ℕ) → k < i → get_or xs k 0 < x) → ((k : ℕ) → i ≤ k → k < length xs → x < get_or xs k 0) → Contains xs x → ⊥
not_there xs x i low high h =
    let is : get_or xs h.0 0 ≡ x = get_or_default xs h.0 0 x h.1 ∙ h.2 in
    elim (dec_lt h.0 i) [
      | yes before ↦ let less : get_or xs h.0 0 < x = low h.0 before in absurd (omega arith)
      | no after ↦ let more : x < get_or xs h.0 0 = high h.0 (omega arith) h.1 in absurd (omega arith)
    ]
