-- Laws of `Words.antt`, which an `impl` cites.
use Rattle.std.specs.Prelude.{◌≡◌, ◌<◌, length, Some, codes, All}
use Rattle.std.proofs.Common.{arith, rules}
use Rattle.std.proofs.lemmas.Bool.Decides.{nat_tests}
use Rattle.std.specs.Char.{IsAsciiAlphabetic}
use Rattle.interference.specs.Net.{id_bound}
use Rattle.sync_rounds.specs.declared.greatest.Best.{Best}
use Rattle.sync_rounds.specs.Words.{best_from}

-- the word is of letters
pub best_letters : (x : Best) → (0 < length (codes "best")) × All IsAsciiAlphabetic (codes "best")
best_letters x = (omega arith, grind (arith, rules))

-- the word and the number of an identifier say it
pub best_reads_back : (x : Best) → x.0 < id_bound → best_from (codes "best") x.0 ≡ Some x
best_reads_back x h = grind (arith, nat_tests)
