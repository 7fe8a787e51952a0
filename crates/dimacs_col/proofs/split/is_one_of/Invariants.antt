use Rattle.std.proofs.Common.{◌≡◌, false, take}
use Rattle.dimacs_col.specs.Split.{is_one_of, words_in}
use Rattle.dimacs_col.proofs.split.is_one_of.Given as goal

-- the field is none of the words so far
abbrev pub invariant-loop-word : goal.invariant-loop-word
invariant-loop-word l = record { none : is_one_of l.field (words_in (take l.word-index l.words)) ≡ false }
