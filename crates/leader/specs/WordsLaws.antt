-- Laws of `Words.antt`, which an `impl` cites.
use Rattle.std.specs.Prelude.{◌≡◌, ◌<◌, length, Some, codes, All}
use Rattle.std.proofs.Common.{arith, rules}
use Rattle.std.proofs.lemmas.Bool.Decides.{nat_tests}
use Rattle.std.specs.Char.{IsAsciiAlphabetic}
use Rattle.interference.specs.Net.{id_bound}
use Rattle.leader.specs.declared.candidate.Candidate.{Candidate}
use Rattle.leader.specs.Words.{candidate_from}

-- the word is of letters
pub candidate_letters : (x : Candidate) → (0 < length (codes "leader")) × All IsAsciiAlphabetic (codes "leader")
candidate_letters x = (omega arith, grind (arith, rules))

-- the word and the number of an identifier say it
pub candidate_reads_back : (x : Candidate) → x.0 < id_bound → candidate_from (codes "leader") x.0 ≡ Some x
candidate_reads_back x h = grind (arith, nat_tests)
