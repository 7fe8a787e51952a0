use Rattle.std.proofs.Common.{◌≡◌, ◌<◌, ◌≤◌, inl, inr, ℕ, Bool, List, Result, Ok, Err, IsTrue, length, get_or, sym, ◌∙◌, arith}
use Rattle.std.specs.List.{Contains}
use Rattle.std.specs.Result.{MatchResult, is_ok}
use Rattle.std.proofs.lemmas.Bool.{cases_lt, false≢true}
use Rattle.std.proofs.lemmas.List.{get_or_default}
use Rattle.std.proofs.lemmas.List.Sorted.{searched}
use Rattle.interference.specs.Net.{bars_of}
use Rattle.interference.proofs.Neighbours.{bars-rise}
use Rattle.interference.proofs.network.Network.is_barred.Goals as goal

-- what a search in a list that rises says of the members
found : (xs : List ℕ) (x : ℕ) (r : Result ℕ ℕ) (b : Bool) → b ≡ is_ok r →
    MatchResult r (λ i. (i < length xs) × (get_or xs i 0 ≡ x))
    (λ i. (i ≤ length xs) × ((k : ℕ) → k < i → get_or xs k 0 < x) × ((k : ℕ) → i ≤ k → k < length xs → x < get_or xs k 0)) →
    (IsTrue b → Contains xs x) × (Contains xs x → IsTrue b)
found xs x (Ok i) b e h = ((λ _. (i, h.0, get_or_default xs i x 0 h.0 ∙ h.1)), (λ _. e))
found xs x (Err i) b e h = (
  (λ t. absurd (false≢true (sym e ∙ t))),
  (λ c. let is = get_or_default xs c.0 x 0 c.1 in elim (cases_lt c.0 i) [
    | inl low ↦ absurd (omega (arith, h.1 c.0 low, is, c.2))
    | inr high ↦ absurd (omega (arith, h.2 c.0 high c.1, is, c.2))
  ]),
)

pub returns : goal.returns
returns c =
    let row = bars_of c.args.self.now c.args.v in
    found row c.args.colour c.binary_search.result c.is_ok.result c.is_ok.ensures.value
    (searched row c.args.colour c.binary_search.result (rw c.bars.ensures.value at c.binary_search.ensures.position)
    (λ i j le below. bars-rise c.args.self.now c.bars.ensures.network c.args.v i j c.requires le below))
