-- Laws of `Words.antt`, which an `impl` cites.
use Rattle.std.specs.Prelude.{◌≡◌, ◌<◌, ◌^◌, length, Some, codes, All}
use Rattle.std.proofs.Common.{arith, rules}
use Rattle.std.proofs.lemmas.Bool.Decides.{nat_tests}
use Rattle.std.specs.Char.{IsAsciiAlphabetic}
use Rattle.layers.specs.declared.hops.Hops.{Hops}
use Rattle.layers.specs.Words.{hops_from}

-- the word is of letters
pub hops_letters : (x : Hops) → (0 < length (codes "hops")) × All IsAsciiAlphabetic (codes "hops")
hops_letters x = (omega arith, grind (arith, rules))

-- the word and the number of a distance say it
pub hops_reads_back : (x : Hops) → x.0 < 2 ^ 32 → hops_from (codes "hops") x.0 ≡ Some x
hops_reads_back x h = grind (arith, nat_tests)
