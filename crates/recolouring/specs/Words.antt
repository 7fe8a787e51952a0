-- The text of what a node says that has chosen anew: the word `anew` and the colour.
use Rattle.std.specs.Prelude.{ℕ, ◌^◌, List, Option, Some, None, if◌then◌else◌, nat_lt, codes}
use Rattle.std.specs.Prelude.{◌&&◌, nat_eq}
use Rattle.std.specs.Cmp.Lexicographic.{pointwise}
use Rattle.recolouring.specs.declared.anew.Anew.{Anew}

-- what a word and a number say: a colour of 16 binary digits, after its word
abbrev pub anew_from : List ℕ → ℕ → Option Anew
anew_from word number =
    if pointwise nat_eq word (codes "anew") && nat_lt number (2 ^ 16) then Some (record { 0 = number }) else None
