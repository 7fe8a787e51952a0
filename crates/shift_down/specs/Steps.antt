-- Shift-down and the dropping of a colour, at one node and on all nodes of a rooted forest at once.
use Rattle.std.specs.Prelude.{ℕ, ◌==◌, false, not, Option, Some, None, if◌then◌else◌}
use Rattle.colour_base.specs.Least.{least}
use Rattle.colour_base.specs.Forest.{at_parent}

-- the least of 0, 1, 2 other than a
unfoldable pub other : ℕ → ℕ
other a = least (λ c. not (c == a)) 3

-- the least of 0, 1, 2 other than a and other than b
unfoldable pub other_of_two : ℕ → ℕ → ℕ
other_of_two a b = least (λ c. if c == a then false else not (c == b)) 3

-- a node takes its parent's colour, and a root another colour than its own
abbrev pub shift_by : ℕ → Option ℕ → ℕ
shift_by own None = other own
shift_by own (Some parent) = parent

-- the least of 0, 1, 2 other than the colour that a node had before, and than its parent's
abbrev pub free_by : ℕ → Option ℕ → ℕ
free_by before None = other before
free_by before (Some parent) = other_of_two before parent

-- a node of colour x takes a free one, and any other node keeps its colour
abbrev pub drop_by : ℕ → ℕ → ℕ → Option ℕ → ℕ
drop_by x own before parent = if own == x then free_by before parent else own

-- the shift of every node at once
abbrev pub shift : (ℕ → Option ℕ) → (ℕ → ℕ) → ℕ → ℕ
shift parents c v = shift_by (c v) (at_parent parents c v)

-- the drop of x at every node at once, where `before` are the colours before the shift
abbrev pub drop : ℕ → (ℕ → Option ℕ) → (ℕ → ℕ) → (ℕ → ℕ) → ℕ → ℕ
drop x parents c before v = drop_by x (c v) (before v) (at_parent parents c v)

-- a shift, and the drop of x after it
abbrev pub reduce : ℕ → (ℕ → Option ℕ) → (ℕ → ℕ) → ℕ → ℕ
reduce x parents c = drop x parents (shift parents c) c

-- the colours 0 to 2 of a forest: from its colours 0 to 5 without 5, then 4, then 3
abbrev pub three_from : (ℕ → Option ℕ) → (ℕ → ℕ) → ℕ → ℕ
three_from parents c = reduce 3 parents (reduce 4 parents (reduce 5 parents c))
