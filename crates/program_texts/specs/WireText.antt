-- The text of a wire, for payloads that are written by a word and a number.
use Rattle.std.specs.Prelude.{◌≡◌, ℕ, ◌<◌, ◌^◌, Some, List, ◌++◌, codes}
use Rattle.number_rows.specs.Row.{numbered}
use Rattle.wires.specs.declared.wire.Wire.{Wire}
use Rattle.wires.specs.declared.wire.Wire.TheVariants.{Payload, Ack, Safe, Close}
use Rattle.program_texts.specs.PayloadTexts.{PayloadTexts}

module _ {M : Type 0} (payloads : PayloadTexts M) where
  -- a wire, with a space before each of its words
  abbrev pub wire_text : Wire M → List ℕ
  wire_text (Payload pulse x) = numbered (codes " payload ") pulse ++ codes " " ++ payloads.word_of x
      ++ numbered (codes " ") (payloads.number_of x)
  wire_text (Ack pulse) = numbered (codes " ack ") pulse
  wire_text (Safe pulse) = numbered (codes " safe ") pulse
  wire_text Close = codes " close"

  -- a wire that can be read from its text: its pulse is below 2^32, and the words of its payload say the payload
  abbrev pub IsReadable : Wire M → Type 0
  IsReadable (Payload pulse x) = (pulse < 2 ^ 32) × (payloads.number_of x < 2 ^ 128)
      × (payloads.payload_of (payloads.word_of x) (payloads.number_of x) ≡ Some x)
  IsReadable (Ack pulse) = pulse < 2 ^ 32
  IsReadable (Safe pulse) = pulse < 2 ^ 32
  IsReadable Close = Unit {0}
