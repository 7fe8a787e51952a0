-- The payload that a word says, if it is text.
use Rattle.std.proofs.Common.{◌≡◌, ℕ, Bool, true, false, Option, None, List, refl}
use Rattle.std.proofs.lemmas.Str.{IsUtf8-from_is_utf8, is_utf8-from_IsUtf8}
use Rattle.std.specs.Str.{IsUtf8, is_utf8}
use Rattle.transcripts.specs.EntryLines.{payload_with}

module _ {M : Type 0} (payload_of : List ℕ → ℕ → Option M) where
  pub payload-text : (word : List ℕ) (number : ℕ) → IsUtf8 word → payload_with payload_of word number ≡ payload_of word number
  payload-text word number text = rw (is_utf8-from_IsUtf8 word text) refl

  pub payload-none : (word : List ℕ) (number : ℕ) → (IsUtf8 word → ⊥) → payload_with payload_of word number ≡ None
  payload-none word number never = by-test (is_utf8 word) refl
    where
      by-test : (b : Bool) → is_utf8 word ≡ b → payload_with payload_of word number ≡ None
      by-test true e = absurd (never (IsUtf8-from_is_utf8 word e))
      by-test false e = rw e refl
