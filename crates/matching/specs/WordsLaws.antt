-- Laws of `Words.antt`, which an `impl` cites.
use Rattle.std.specs.Prelude.{◌≡◌, ◌<◌}
use Rattle.std.specs.Prelude.{length, All, Some, None}
use Rattle.std.proofs.Common.{arith, rules}
use Rattle.std.proofs.lemmas.Bool.Decides.{nat_tests}
use Rattle.std.specs.Char.{IsAsciiAlphabetic}
use Rattle.colour_rules.specs.Words.{payload_from}
use Rattle.matching.specs.declared.proposal.Proposal.{Proposal}
use Rattle.matching.specs.declared.proposal.Proposal.TheVariants.{Free, Take}
use Rattle.matching.specs.Words.{IsProposal, word_in, number_in, proposal_from}

-- each word is of letters
pub words_are_letters : (x : Proposal) → (0 < length (word_in x)) × All IsAsciiAlphabetic (word_in x)
words_are_letters (Free forest) = (omega arith, grind (arith, rules))
words_are_letters (Take forest) = (omega arith, grind (arith, rules))

-- the word and the number of a proposal say it
pub words_read_back : (x : Proposal) → IsProposal x → proposal_from (word_in x) (number_in x) ≡ Some x
words_read_back (Free forest) h = grind (arith, nat_tests)
words_read_back (Take forest) h = grind (arith, nat_tests)

-- and no payload of the colouring
pub words_apart : (x : Proposal) → payload_from (word_in x) (number_in x) ≡ None
words_apart (Free forest) = grind (arith, nat_tests)
words_apart (Take forest) = grind (arith, nat_tests)
