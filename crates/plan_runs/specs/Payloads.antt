-- The texts of the payloads of the colouring.
use Rattle.program_texts.specs.PayloadTexts.{PayloadTexts}
use Rattle.colour_rules.specs.Words.{number_in, payload_from, word_in}
use Rattle.colour_rules.specs.declared.payload.Payload.{Payload}

abbrev pub colouring_payloads : PayloadTexts Payload
colouring_payloads = record { word_of = word_in; number_of = number_in; payload_of = payload_from }
