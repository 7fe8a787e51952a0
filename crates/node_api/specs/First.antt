-- The first port at which something came.
use Rattle.std.specs.Prelude.{ℕ, ◌+◌, List, [], ◌∷◌, Option, Some, None}

-- the first port, from this one on, at which there is a payload
abbrev pub first_from : {M : Type 0} → ℕ → List (Option M) → Option ℕ
first_from port [] = None
first_from port (None ∷ slots) = first_from (port + 1) slots
first_from port (Some x ∷ slots) = Some port

-- the first port at which something came
abbrev pub first_came : {M : Type 0} → List (Option M) → Option ℕ
first_came slots = first_from 0 slots
