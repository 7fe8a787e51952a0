-- Numbers that a stream may know of itself. Of an unknown one nothing is said.
use Rattle.std.specs.Prelude.{◌≡◌, ◌<◌, ◌≤◌, ◌+◌, ◌-◌, ◌==◌, ℕ, Option, Some, None, Result, MatchResult, ⊤}
use Rattle.std.specs.Prelude.{if◌then◌else◌}

-- a number that is known grows by n
abbrev pub CountsOn : Option ℕ → ℕ → Option ℕ → Type 0
CountsOn None n new = ⊤
CountsOn (Some a) n None = ⊥
CountsOn (Some a) n (Some b) = b ≡ a + n

-- n is taken off a number that is known, down to 0
abbrev pub CountsDown : Option ℕ → ℕ → Option ℕ → Type 0
CountsDown None n new = ⊤
CountsDown (Some a) n None = ⊥
CountsDown (Some a) n (Some b) = b ≡ a - n

-- at most n is taken off a number that is known
abbrev pub FallsByAtMost : Option ℕ → ℕ → Option ℕ → Type 0
FallsByAtMost None n new = ⊤
FallsByAtMost (Some a) n None = ⊥
FallsByAtMost (Some a) n (Some b) = a ≤ b + n

-- a number that is known has grown
abbrev pub HasGrown : Option ℕ → Option ℕ → Type 0
HasGrown None new = ⊤
HasGrown (Some a) None = ⊥
HasGrown (Some a) (Some b) = a < b

-- a read that fails is a fault
abbrev pub CountsRead : {E : Type 0} → Option ℕ → Result ℕ E → Option ℕ → Type 0
CountsRead old r new = MatchResult r (λ _. CountsOn old 0 new) (λ _. CountsOn old 1 new)

-- a write that fails, or takes nothing, is a fault
abbrev pub CountsWrite : {E : Type 0} → Option ℕ → Result ℕ E → Option ℕ → Type 0
CountsWrite old r new =
    MatchResult r (λ n. CountsOn old (if n == 0 then 1 else 0) new) (λ _. CountsOn old 1 new)
