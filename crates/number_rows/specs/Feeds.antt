-- Lines, and texts without a line feed.
use Rattle.std.specs.Prelude.{◌≡◌, ◌⊎◌, ◌==◌, ◌||◌, ℕ, Bool, false, List, [], ◌∷◌, ◌++◌}

-- whether a line feed (10) is in a text
abbrev pub has_feed : List ℕ → Bool
has_feed [] = false
has_feed (c ∷ cs) = (c == 10) || has_feed cs

abbrev pub HasNoFeed : List ℕ → Type 0
HasNoFeed text = has_feed text ≡ false

-- a line: a text without a line feed, and then one
abbrev pub IsLine : List ℕ → Type 0
IsLine text = (words : List ℕ) × HasNoFeed words × (text ≡ words ++ 10 ∷ [])

-- whole lines, or none: the text is empty, or a line feed ends it
abbrev pub AreLines : List ℕ → Type 0
AreLines text = (text ≡ []) ⊎ ((before : List ℕ) × (text ≡ before ++ 10 ∷ []))
