-- The text of a distance: the word `hops` and the number.
use Rattle.std.specs.Prelude.{ℕ, ◌^◌, List, Option, Some, None, if◌then◌else◌, nat_lt, codes}
use Rattle.std.specs.Prelude.{◌&&◌, nat_eq}
use Rattle.std.specs.Cmp.Lexicographic.{pointwise}
use Rattle.layers.specs.declared.hops.Hops.{Hops}

-- what a word and a number say: a distance, after its word
abbrev pub hops_from : List ℕ → ℕ → Option Hops
hops_from word number = if pointwise nat_eq word (codes "hops") && nat_lt number (2 ^ 32) then Some (record {
  0 =
      number;
}) else None
