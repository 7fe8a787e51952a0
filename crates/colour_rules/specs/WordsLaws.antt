-- Laws of `Words.antt`, which an `impl` cites.
use Rattle.std.specs.Prelude.{◌≡◌, ◌<◌}
use Rattle.std.specs.Prelude.{length, All, Some}
use Rattle.std.proofs.Common.{arith, rules}
use Rattle.std.proofs.lemmas.Bool.Decides.{nat_tests}
use Rattle.std.specs.Char.{IsAsciiAlphabetic}
use Rattle.colour_rules.specs.declared.payload.Payload.{Payload}
use Rattle.colour_rules.specs.declared.payload.Payload.TheVariants.{Hello, Label, Colour, Chosen}
use Rattle.colour_rules.specs.Words.{IsPayload, word_in, number_in, payload_from}

-- each word is of letters
pub words_are_letters : (payload : Payload) → (0 < length (word_in payload)) × All IsAsciiAlphabetic (word_in payload)
words_are_letters (Hello id) = (omega arith, grind (arith, rules))
words_are_letters (Label forest) = (omega arith, grind (arith, rules))
words_are_letters (Colour colour) = (omega arith, grind (arith, rules))
words_are_letters (Chosen colour) = (omega arith, grind (arith, rules))

-- the word and the number of a payload say it
pub words_read_back : (payload : Payload)
    → IsPayload payload → payload_from (word_in payload) (number_in payload) ≡ Some payload
words_read_back (Hello id) h = grind (arith, nat_tests)
words_read_back (Label forest) h = grind (arith, nat_tests)
words_read_back (Colour colour) h = grind (arith, nat_tests)
words_read_back (Chosen colour) h = grind (arith, nat_tests)
