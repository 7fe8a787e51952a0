-- The rule of a deque: what was pushed to it is what was taken from it and what it holds.
use Rattle.std.specs.Prelude.{◌≡◌, ℕ, ◌+◌, ◌<◌, List, [], ◌∷◌, Option, Some, None}
use mathlib.Core.Option as option
use lib.ListN.{get_elem?}
use Rattle.crossbeam_deque.specs.Tasks.{Forks}
use Rattle.deque_rule.specs.declared.ledger.Ledger.{Ledger}
use Rattle.run_options.specs.declared.TheConstants.{MAX_WORKERS}

-- what a pass of a deque knows: its shares of the right to know the whole, and the numbers that it pushed and took
abbrev pub ledger : ℕ → List ℕ → List ℕ → Ledger
ledger shares pushed taken = record { shares = shares; pushed = pushed; taken = taken }

-- there is a share for each worker, one for what was dealt, and one for the owner
abbrev pub all_shares : ℕ
all_shares = MAX_WORKERS + 2

-- the weights of these numbers, added up
abbrev pub weigh : (ℕ → ℕ) → List ℕ → ℕ
weigh h [] = 0
weigh h (x ∷ xs) = h x + weigh h xs

-- These are the same numbers, each as often: they weigh the same, however numbers are weighed.
abbrev pub AreSame : List ℕ → List ℕ → Type 0
AreSame xs ys = (h : ℕ → ℕ) → weigh h xs ≡ weigh h ys

-- f of each pass, added up
abbrev pub total : (Ledger → ℕ) → List Ledger → ℕ
total f [] = 0
total f (v ∷ vs) = f v + total f vs

-- what all these passes pushed weighs
abbrev pub pushed_by : (ℕ → ℕ) → List Ledger → ℕ
pushed_by h views = total (λ v. weigh h v.pushed) views

-- what all these passes took weighs
abbrev pub taken_by : (ℕ → ℕ) → List Ledger → ℕ
taken_by h views = total (λ v. weigh h v.taken) views

-- a pass without a share has pushed and taken nothing
abbrev pub IdleIsEmpty : List Ledger → Type 0
IdleIsEmpty views =
    (pass : ℕ) (v : Ledger) → get_elem? views pass ≡ option.some v → v.shares ≡ 0 → (v.pushed ≡ []) × (v.taken ≡ [])

-- Between any two steps: the numbers that all passes pushed are those that they took and those in the deque.
pub record Balanced (items : List ℕ) (views : List Ledger) : Type 0 where
  pub shares : total (λ v. v.shares) views ≡ all_shares
  pub even : (h : ℕ → ℕ) → pushed_by h views ≡ taken_by h views + weigh h items
  pub idle : IdleIsEmpty views

-- what the pass with every share knows if the deque is empty: all that was pushed was taken
abbrev pub KnowsEmpty : Ledger → Type 0
KnowsEmpty v = v.shares ≡ all_shares → AreSame v.pushed v.taken

-- Tasks with these numbers are out by these passes: the passes took them and what they pushed.
abbrev pub AreOut : List Ledger → List ℕ → Type 0
AreOut views tasks = (h : ℕ → ℕ) → taken_by h views ≡ pushed_by h views + weigh h tasks

-- the number of a task, if there is one
abbrev pub in_hand : {A : Type 0} → (A → ℕ) → Option A → List ℕ
in_hand f (Some x) = f x ∷ []
in_hand f None = []

-- these passes took nothing, and pushed these numbers
abbrev pub AreDealt : List Ledger → List ℕ → Type 0
AreDealt views tasks = (h : ℕ → ℕ) → (taken_by h views ≡ 0) × (pushed_by h views ≡ weigh h tasks)

-- a pass may be split so, whatever its deque holds, and the new one has one share
pub record CanSplit (left right : Ledger → Ledger) : Type 0 where
  pub forks : (pass : ℕ) (v : Ledger) → 1 < v.shares → Forks Balanced pass v (left v) (right v)
  pub one : (v : Ledger) → (right v).shares ≡ 1

-- f of each row of passes, added up
abbrev pub in_rows : (List Ledger → ℕ) → List (List Ledger) → ℕ
in_rows f [] = 0
in_rows f (row ∷ rows) = f row + in_rows f rows

-- the shares of a pass
abbrev pub shares_of : Ledger → ℕ
shares_of v = v.shares
