-- The texts of payloads: each is written by a word and a number.
use Rattle.std.specs.Prelude.{ℕ, List, Option}
use Rattle.node_api.specs.declared.payload.PayloadText as payload_text

-- what texts need of a type of payloads
pub record PayloadTexts (M : Type 0) : Type 0 where
  -- the word of a payload
  pub word_of : M → List ℕ
  -- the number of a payload
  pub number_of : M → ℕ
  -- the payload of a word and a number, if they are the text of one
  pub payload_of : List ℕ → ℕ → Option M

-- the texts of a type that has the trait `PayloadText`
abbrev pub payload_texts : {M : Type 0} → payload_text.Ghosts M → PayloadTexts M
payload_texts text = record {
  word_of = text.word_of;
  number_of = text.number_of;
  payload_of = text.payload_of;
}
