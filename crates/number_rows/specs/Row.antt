-- The line of some numbers, and a number after words.
use Rattle.std.specs.Prelude.{ℕ, List, [], ◌∷◌, ◌++◌, map, flat_map}
use Rattle.std.specs.List.{join_with_byte}
use Rattle.std.specs.Fmt.{decimal}

-- the numbers in decimal, parted by one space (32), and a line feed (10)
abbrev pub row : List ℕ → List ℕ
row numbers = join_with_byte 32 (map decimal numbers) ++ 10 ∷ []

-- the numbers in decimal, a space behind each
abbrev pub spaced : List ℕ → List ℕ
spaced numbers = flat_map (λ n. decimal n ++ 32 ∷ []) numbers

-- words, and a number after them
abbrev pub numbered : List ℕ → ℕ → List ℕ
numbered words number = words ++ decimal number
