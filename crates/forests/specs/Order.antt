-- Lists in the order of a key, as an identifier or a number itself.
use Rattle.std.specs.Prelude.{ℕ, ◌<◌, ◌≢◌, List, [], ◌∷◌, if◌then◌else◌, nat_lt}
use Rattle.std.specs.List.{AllPairs}

-- an ordered list with x put in, before the first entry whose key is not lower
abbrev pub put_in_order : {X : Type 0} → (X → ℕ) → X → List X → List X
put_in_order key x [] = x ∷ []
put_in_order key x (y ∷ ys) = if nat_lt (key y) (key x) then y ∷ put_in_order key x ys else x ∷ y ∷ ys

-- the entries of a list, ascending by key
abbrev pub in_order : {X : Type 0} → (X → ℕ) → List X → List X
in_order key [] = []
in_order key (x ∷ xs) = put_in_order key x (in_order key xs)

-- each entry has a lower key than all later ones
abbrev pub IsAscendingBy : {X : Type 0} → (X → ℕ) → List X → Type 0
IsAscendingBy key xs = AllPairs (λ x y. key x < key y) xs

-- no two entries have one key
abbrev pub HasDistinctKeys : {X : Type 0} → (X → ℕ) → List X → Type 0
HasDistinctKeys key xs = AllPairs (λ x y. key x ≢ key y) xs
