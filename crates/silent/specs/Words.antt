-- The text of a payload: the word `silent` and its number.
use Rattle.std.specs.Prelude.{ℕ, ◌^◌, List, Option, Some, None, if◌then◌else◌, nat_lt, codes}
use Rattle.std.specs.Prelude.{◌&&◌, nat_eq}
use Rattle.std.specs.Cmp.Lexicographic.{pointwise}
use Rattle.silent.specs.declared.payload.Word.{Word}

-- what a word and a number say
abbrev pub word_from : List ℕ → ℕ → Option Word
word_from word number = if pointwise nat_eq word (codes "silent") && nat_lt number (2 ^ 32) then Some (record {
  0 =
      number;
}) else None
