-- The first port at which something came.
use Rattle.std.proofs.Common.{◌≡◌, ℕ, zero, suc, ◌+◌, ◌<◌, List, [], ◌∷◌, length, refl, ap, sym, ◌∙◌, arith, get_or}
use Rattle.std.specs.Prelude.{map, Option, Some, None}
use Rattle.node_api.specs.Boxes.{Mail, Reads, HasFrom, at_port, nothing, unread}
use Rattle.node_api.proofs.Reading.{nothing-came}
use Rattle.node_api.specs.First.{first_came, first_from}

first_from-nothing : (M : Type 0) (n i : ℕ) → first_from {M = M} i (nothing n) ≡ None
first_from-nothing M zero i = refl
first_from-nothing M (suc n) i = first_from-nothing M n (i + 1)

-- it is the place of the first payload
first_from-is : {M : Type 0} (slots : List (Option M)) (i k : ℕ) (x : M) → k < length slots → at_port slots k ≡ Some x →
    ((j : ℕ) → j < k → at_port slots j ≡ None) → first_from i slots ≡ Some (i + k)
first_from-is [] i k x h e none = absurd (omega arith)
first_from-is (None ∷ slots) i zero x h e none = absurd cc
first_from-is (Some y ∷ slots) i zero x h e none = ap (λ (n : ℕ). Some n) (let same : i ≡ i + 0 = omega arith in same)
first_from-is (Some y ∷ slots) i (suc k) x h e none = let here : Some y ≡ None = none 0 (omega arith) in absurd cc
first_from-is (None ∷ slots) i (suc k) x h e none =
    first_from-is slots (i + 1) k x (omega arith) e (λ j l. none (suc j) (omega arith))
    ∙ ap (λ (n : ℕ). Some n) (let same : i + 1 + k ≡ i + suc k = omega arith in same)

-- what is read first came there
pub first-read : {M : Type 0} (slots : List (Option M)) (new : Mail M) (x : M) (port : ℕ) → Reads (unread slots) x new → port + 1 ≡ new.cursor →
    (Some port ≡ first_came slots) × (port < length slots)
first-read slots new x port r at =
    let below : port < length slots = omega (arith, r.within) in (
      ap (λ (n : ℕ). Some n) (let same : port ≡ 0 + port = omega arith in same)
          ∙ sym (first_from-is slots 0 port x below (r.here port at) (λ j l. r.first j (omega arith) (omega (arith, at)))),
      below,
    )

-- an inbox in which nothing is left from the first port has none
pub first-none : {M : Type 0} (slots : List (Option M)) → (HasFrom slots 0 → ⊥) → None ≡ first_came slots
first-none {M = M} slots quiet = sym (ap (first_from 0) (nothing-came slots quiet) ∙ first_from-nothing M (length slots) 0)

-- by what comes from each of a list
pub record Comes {M : Type 0} (sent : ℕ → Option M) (ws : List ℕ) (k : ℕ) : Type 0 where
  pub below : k < length ws
  pub payload : M
  pub came : sent (get_or ws k 0) ≡ Some payload

comes-later : {M : Type 0} (sent : ℕ → Option M) (w : ℕ) (ws : List ℕ) (i k : ℕ) → (j : ℕ) × (k ≡ i + 1 + j) × Comes sent ws j →
    (j : ℕ) × (k ≡ i + j) × Comes sent (w ∷ ws) j
comes-later sent w ws i k (j, e, comes) = (
  suc j,
  (let same : k ≡ i + suc j = omega arith in same),
  record { below = omega (arith, comes.below); payload = comes.payload; came = comes.came },
)

place-if : {M : Type 0} (sent : ℕ → Option M) (w : ℕ) (ws : List ℕ) (i k : ℕ) (x : Option M) → sent w ≡ x →
    first_from i (x ∷ map sent ws) ≡ Some k → (first_from (i + 1) (map sent ws) ≡ Some k → (j : ℕ) × (k ≡ i + 1 + j) × Comes sent ws j) →
    (j : ℕ) × (k ≡ i + j) × Comes sent (w ∷ ws) j
place-if sent w ws i k None is e rest = comes-later sent w ws i k (rest e)
place-if sent w ws i k (Some x) is e rest = (
  0,
  (let same : i ≡ k = (cc) in omega (arith, same)),
  record { below = omega arith; payload = x; came = is },
)

pub first-comes : {M : Type 0} (sent : ℕ → Option M) (ws : List ℕ) (i k : ℕ) → first_from i (map sent ws) ≡ Some k →
    (j : ℕ) × (k ≡ i + j) × Comes sent ws j
first-comes sent [] i k e = absurd cc
first-comes sent (w ∷ ws) i k e = place-if sent w ws i k (sent w) refl e (first-comes sent ws (i + 1) k)

none-later : {M : Type 0} (slot : Option M) (slots : List (Option M)) (i : ℕ) → first_from i (slot ∷ slots) ≡ None →
    (first_from (i + 1) slots ≡ None → ⊥) → ⊥
none-later None slots i e rest = rest e
none-later (Some y) slots i e rest = cc

pub comes-none : {M : Type 0} (sent : ℕ → Option M) (ws : List ℕ) (i k : ℕ) (x : M) → k < length ws → sent (get_or ws k 0) ≡ Some x →
    first_from i (map sent ws) ≡ None → ⊥
comes-none sent [] i k x below is e = absurd (omega arith)
comes-none sent (w ∷ ws) i zero x below is e =
    let there : first_from i (Some x ∷ map sent ws) ≡ None = ap (λ slot. first_from i (slot ∷ map sent ws)) (sym is) ∙ e in cc
comes-none sent (w ∷ ws) i (suc k) x below is e = none-later (sent w) (map sent ws) i e (comes-none sent ws (i + 1) k x (omega arith) is)
