-- Names of programs, as texts and command lines have them.
use Rattle.std.specs.Prelude.{◌≡◌, ◌-◌, ◌==◌, ◌&&◌, ◌||◌, ℕ, Bool, true, List, [], ◌∷◌, length, nat_le, nat_lt}
use Rattle.std.specs.Prelude.{slice_index}

-- a small ASCII letter: 'a' to 'z'
abbrev pub is_small : ℕ → Bool
is_small c = nat_le 97 c && nat_le c 122

-- such letters and hyphens alone
abbrev pub are_joined : List ℕ → Bool
are_joined [] = true
are_joined (c ∷ cs) = (is_small c || c == 45) && are_joined cs

-- whether a text is a name: letters and hyphens, of which the first and the last one is a letter
abbrev pub is_name : List ℕ → Bool
is_name text = (nat_lt 0 (length text) && are_joined text)
    && (is_small (slice_index text 0) && is_small (slice_index text (length text - 1)))

-- So a name is one word of a text, and one of a command line that is no option.
abbrev pub IsName : List ℕ → Type 0
IsName text = is_name text ≡ true
