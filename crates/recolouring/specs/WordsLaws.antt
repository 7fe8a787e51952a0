-- Laws of `Words.antt`, which an `impl` cites.
use Rattle.std.specs.Prelude.{◌≡◌, ◌<◌, ◌^◌, length, Some, None, codes, All}
use Rattle.std.proofs.Common.{arith, rules}
use Rattle.std.proofs.lemmas.Bool.Decides.{nat_tests}
use Rattle.std.specs.Char.{IsAsciiAlphabetic}
use Rattle.colour_rules.specs.Words.{payload_from}
use Rattle.recolouring.specs.declared.anew.Anew.{Anew}
use Rattle.recolouring.specs.Words.{anew_from}

-- the word is of letters
pub anew_letters : (x : Anew) → (0 < length (codes "anew")) × All IsAsciiAlphabetic (codes "anew")
anew_letters x = (omega arith, grind (arith, rules))

-- the word and the number say it
pub anew_reads_back : (x : Anew) → x.0 < 2 ^ 16 → anew_from (codes "anew") x.0 ≡ Some x
anew_reads_back x h = grind (arith, nat_tests)

-- and no payload of the colouring
pub anew_apart : (x : Anew) → payload_from (codes "anew") x.0 ≡ None
anew_apart x = grind (arith, nat_tests)
