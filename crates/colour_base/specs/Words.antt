-- A list of words of 64 bits, as the set of the places of its ones: bit b of word w is 64 * w + b.
use Rattle.std.specs.Prelude.{ℕ, ◌/◌, ◌%◌, ◌==◌, Bool, List, get_or}
use Rattle.std.specs.Int.{bit_at}

-- whether the bit at a place is 1; past the last word it is not
unfoldable pub has_bit : List ℕ → ℕ → Bool
has_bit words place = bit_at (get_or words (place / 64) 0) (place % 64) == 1
