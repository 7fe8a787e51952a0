-- Laws of `Words.antt`, which an `impl` cites.
use Rattle.std.specs.Prelude.{◌≡◌, ◌<◌, ◌^◌, length, Some, codes, All}
use Rattle.std.proofs.Common.{arith, rules}
use Rattle.std.proofs.lemmas.Bool.Decides.{nat_tests}
use Rattle.std.specs.Char.{IsAsciiAlphabetic}
use Rattle.silent.specs.declared.payload.Word.{Word}
use Rattle.silent.specs.Words.{word_from}

-- the word is of letters
pub word_letters : (x : Word) → (0 < length (codes "silent")) × All IsAsciiAlphabetic (codes "silent")
word_letters x = (omega arith, grind (arith, rules))

-- the word and the number of a payload say it
pub word_reads_back : (x : Word) → x.0 < 2 ^ 32 → word_from (codes "silent") x.0 ≡ Some x
word_reads_back x h = grind (arith, nat_tests)
