-- Which colours are taken for a node, in each of the three forms in which it keeps them.
use Rattle.std.specs.Prelude.{ℕ, ◌*◌, ◌||◌, Bool, Option, None, Some}
use Rattle.std.specs.Ordering.{nat_cmp}
use Rattle.std.specs.FinSet.{FinSet, contains, empty}
use Rattle.std.specs.Global.{Box}
use Rattle.forest_merge.specs.declared.chosen.TheConstants.{WORDS}
use Rattle.colour_rules.specs.declared.taken.TheConstants.{FEW_WORDS, MORE_WORDS}
use Rattle.colour_rules.specs.declared.taken.TakenColours.{TakenColours}
use Rattle.colour_rules.specs.declared.taken.TakenColours.TheVariants.{Few, More, Many}

-- the colours that neighbours chose
abbrev pub chosen_in : TakenColours → FinSet nat_cmp
chosen_in (Few chosen barred) = chosen
chosen_in (More chosen barred) = chosen.value
chosen_in (Many chosen barred) = chosen.value

-- the colours in a set that is left out if it is empty
abbrev pub set_in : Option (Box (FinSet nat_cmp)) → FinSet nat_cmp
set_in None = empty
set_in (Some set) = set.value

-- and those that are barred
abbrev pub barred_in : TakenColours → FinSet nat_cmp
barred_in (Few chosen barred) = set_in barred
barred_in (More chosen barred) = set_in barred
barred_in (Many chosen barred) = set_in barred

-- whether a colour is either
abbrev pub is_taken_in : TakenColours → ℕ → Bool
is_taken_in taken = λ c. contains (chosen_in taken) c || contains (barred_in taken) c

-- it has room for the colours from 0 and below this
abbrev pub room_of : TakenColours → ℕ
room_of (Few chosen barred) = 64 * FEW_WORDS
room_of (More chosen barred) = 64 * MORE_WORDS
room_of (Many chosen barred) = 64 * WORDS
