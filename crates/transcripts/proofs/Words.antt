-- The words of an entry's line. They are words (words-of), their text is the line (text-of), and they are read as the entry
-- (reads-row).
use Rattle.std.proofs.Common.{◌≡◌, ◌<◌, ◌^◌, ◌++◌, ◌∷◌, [], ◌∙◌, ℕ, true, Some, None, List, All, inl, inr, arith, ap, append_assoc, codes, get_or}
use Rattle.std.proofs.Common.{length, nat_lt, refl, option_and_then, option_map, if◌then◌else◌, rules}
use Rattle.std.proofs.lemmas.Bool.{lt-ltb, cases_lt}
use Rattle.std.proofs.lemmas.Fmt.{decimal_is_IsNumeral_wide}
use Rattle.std.proofs.lemmas.List.{get_or_past}
use Rattle.std.proofs.lemmas.List.Elements.{All-cons, All-get_or, All-nil, All-weaker}
use Rattle.std.proofs.lemmas.Str.{IsUtf8-from_ascii}
use Rattle.std.proofs.lemmas.Str.Parse.{tells_all_ascii_digits}
use Rattle.std.specs.Char.{IsAsciiAlphabetic}
use Rattle.std.specs.Fmt.{decimal}
use Rattle.std.specs.Str.{IsAscii, all_ascii_digits}
use Rattle.dimacs_col.proofs.SmallNumbers.{small-decimal}
use Rattle.dimacs_col.proofs.FieldNumbers.{own}
use Rattle.dimacs_col.specs.Lines.{number_of}
use Rattle.wires.specs.declared.wire.Wire.{Wire}
use Rattle.wires.specs.declared.wire.Wire.TheVariants.{Payload, Ack, Safe, Close}
use Rattle.entries.specs.declared.entry.Entry.{Entry}
use Rattle.entries.specs.declared.entry.Entry.TheVariants.{Pulse, Put, Take}
use Rattle.program_texts.specs.PayloadTexts.{PayloadTexts}
use Rattle.program_texts.specs.WireText
use Rattle.number_rows.specs.Row.{numbered}
use Rattle.program_texts.specs.WireText.{wire_text}
use Rattle.transcripts.specs.EntryLines.{entry_of, entry_with, only, payload_in, payload_with, row_with, stamp_number, wide_number, wire_of, wire_with}
use Rattle.transcripts.specs.TranscriptText.{IsReadable, IsReadableEntry, entry_text}
use Rattle.entries.specs.declared.rows.Row.{Row}
use Rattle.transcripts.proofs.Payloads.{payload-text}
use Rattle.transcripts.proofs.Spaced.{IsSeen, IsWord, spaced}

-- ---- numbers

seen-digits : (ds : List ℕ) → all_ascii_digits ds ≡ true → All IsSeen ds
seen-digits [] e = All-nil IsSeen
seen-digits (c ∷ cs) e = let p = tells_all_ascii_digits.parts c cs e in All-cons IsSeen c cs (omega (arith, p.0)) (seen-digits cs p.1)

module _ (n : ℕ) (fits : n < 2 ^ 128) where
  wide : n < 10 ^ 64
  wide = omega (arith, fits)

  digits : all_ascii_digits (decimal n) ≡ true
  digits = own.from (decimal n) (decimal_is_IsNumeral_wide n wide).0.1

  number-word : IsWord (decimal n)
  number-word = ((decimal_is_IsNumeral_wide n wide).0.0, seen-digits (decimal n) digits)

  number-decimal : number_of (decimal n) ≡ Some n
  unfolding number_of
  number-decimal = rw (lt-ltb 0 (length (decimal n)) (decimal_is_IsNumeral_wide n wide).0.0, digits) (ap (λ k. Some k) (decimal_is_IsNumeral_wide n wide).1)

  wide-decimal : wide_number (decimal n) ≡ Some n
  wide-decimal = ap (option_and_then (λ k. if nat_lt k (2 ^ 128) then Some k else None)) number-decimal ∙ rw (lt-ltb n (2 ^ 128) fits) refl

pub stamp-decimal : (n : ℕ) → n < 2 ^ 64 → stamp_number (decimal n) ≡ Some n
stamp-decimal n h =
    ap (option_and_then (λ k. if nat_lt k (2 ^ 64) then Some k else None)) (number-decimal n (omega (arith, h))) ∙ rw (lt-ltb n (2 ^ 64) h) refl

pub stamp-word : (n : ℕ) → n < 2 ^ 64 → IsWord (decimal n)
stamp-word n h = number-word n (omega (arith, h))

pub small-word : (n : ℕ) → n < 2 ^ 32 → IsWord (decimal n)
small-word n h = number-word n (omega (arith, h))

-- ---- words
letter-seen : (x : ℕ) → IsAsciiAlphabetic x → IsSeen x
letter-seen x (inl upper) = omega (arith, upper.0)
letter-seen x (inr lower) = omega (arith, lower.0)

letter-low : (x : ℕ) → IsAsciiAlphabetic x → x < 128
letter-low x (inl upper) = omega (arith, upper.1)
letter-low x (inr lower) = omega (arith, lower.1)

letters-ascii : (w : List ℕ) → All IsAsciiAlphabetic w → IsAscii w
letters-ascii w h i = elim (cases_lt i (length w)) [
  | inl below ↦ letter-low (get_or w i 0) (All-get_or IsAsciiAlphabetic w i 0 below h)
  | inr past ↦ let none : get_or w i 0 ≡ 0 = get_or_past w i 0 past in omega (arith, none)
]

module _ {M : Type 0} (payloads : PayloadTexts M) (letters : (x : M) → (0 < length (payloads.word_of x)) × All IsAsciiAlphabetic (payloads.word_of x)) where
  abbrev pub wire_words : Wire M → List (List ℕ)
  wire_words (Payload p x) = codes "payload" ∷ decimal p ∷ payloads.word_of x ∷ decimal (payloads.number_of x) ∷ []
  wire_words (Ack p) = codes "ack" ∷ decimal p ∷ []
  wire_words (Safe p) = codes "safe" ∷ decimal p ∷ []
  wire_words Close = codes "close" ∷ []

  abbrev pub entry_words : Entry M → List (List ℕ)
  entry_words (Pulse p) = codes "pulse" ∷ decimal p ∷ []
  entry_words (Put w wire) = codes "put" ∷ decimal w ∷ wire_words wire
  entry_words (Take w wire) = codes "take" ∷ decimal w ∷ wire_words wire

  -- the line of an entry is its words
  text-payload : (p : ℕ) (x : M) → wire_text payloads (Payload p x)
      ≡ numbered (codes " payload ") p ++ (32 ∷ (payloads.word_of x ++ numbered (codes " ") (payloads.number_of x)))
  text-payload p x =
      append_assoc (numbered (codes " payload ") p ++ codes " ") (payloads.word_of x) (numbered (codes " ") (payloads.number_of x))
      ∙ append_assoc (numbered (codes " payload ") p) (codes " ") (payloads.word_of x ++ numbered (codes " ") (payloads.number_of x))

  pub text-of : (v : ℕ) (entry : Entry M) → decimal v ++ entry_text payloads entry ≡ spaced (decimal v) (entry_words entry)
  text-of v (Pulse p) = refl
  text-of v (Put w (Payload p x)) = ap (λ t. decimal v ++ (numbered (codes " put ") w ++ t)) (text-payload p x)
  text-of v (Put w (Ack p)) = refl
  text-of v (Put w (Safe p)) = refl
  text-of v (Put w Close) = refl
  text-of v (Take w (Payload p x)) = ap (λ t. decimal v ++ (numbered (codes " take ") w ++ t)) (text-payload p x)
  text-of v (Take w (Ack p)) = refl
  text-of v (Take w (Safe p)) = refl
  text-of v (Take w Close) = refl

  abbrev IsReadableWire : Wire M → Type 0
  IsReadableWire wire = WireText.IsReadable payloads wire

  -- the words of a line are words
  word-payload : (x : M) → IsWord (payloads.word_of x)
  word-payload x = ((letters x).0, All-weaker IsAsciiAlphabetic IsSeen letter-seen (payloads.word_of x) (letters x).1)

  literal-payload : IsWord (codes "payload")
  literal-payload = (omega arith, grind (arith, rules))

  literal-ack : IsWord (codes "ack")
  literal-ack = (omega arith, grind (arith, rules))

  literal-safe : IsWord (codes "safe")
  literal-safe = (omega arith, grind (arith, rules))

  literal-close : IsWord (codes "close")
  literal-close = (omega arith, grind (arith, rules))

  literal-pulse : IsWord (codes "pulse")
  literal-pulse = (omega arith, grind (arith, rules))

  literal-put : IsWord (codes "put")
  literal-put = (omega arith, grind (arith, rules))

  literal-take : IsWord (codes "take")
  literal-take = (omega arith, grind (arith, rules))

  pub two-words : (a b : List ℕ) (more : List (List ℕ)) → IsWord a → IsWord b → All IsWord more → All IsWord (a ∷ b ∷ more)
  two-words a b more i j k = All-cons IsWord a (b ∷ more) i (All-cons IsWord b more j k)

  words-wire : (wire : Wire M) → IsReadableWire wire → All IsWord (wire_words wire)
  words-wire (Payload p x) h =
      two-words (codes "payload") (decimal p) (payloads.word_of x ∷ decimal (payloads.number_of x) ∷ []) literal-payload (small-word p h.0)
      (two-words (payloads.word_of x) (decimal (payloads.number_of x)) [] (word-payload x) (number-word (payloads.number_of x) h.1) (All-nil IsWord))
  words-wire (Ack p) h = two-words (codes "ack") (decimal p) [] literal-ack (small-word p h) (All-nil IsWord)
  words-wire (Safe p) h = two-words (codes "safe") (decimal p) [] literal-safe (small-word p h) (All-nil IsWord)
  words-wire Close h = All-cons IsWord (codes "close") [] literal-close (All-nil IsWord)

  pub words-of : (entry : Entry M) → IsReadableEntry payloads entry → All IsWord (entry_words entry)
  words-of (Pulse p) h = two-words (codes "pulse") (decimal p) [] literal-pulse (small-word p h) (All-nil IsWord)
  words-of (Put w wire) h = two-words (codes "put") (decimal w) (wire_words wire) literal-put (small-word w h.0) (words-wire wire h.1)
  words-of (Take w wire) h = two-words (codes "take") (decimal w) (wire_words wire) literal-take (small-word w h.0) (words-wire wire h.1)

  -- they are read as the entry
  reads-payload : (x : M) → payloads.number_of x < 2 ^ 128 → payloads.payload_of (payloads.word_of x) (payloads.number_of x) ≡ Some x →
      payload_in payloads.payload_of (payloads.word_of x ∷ decimal (payloads.number_of x) ∷ []) ≡ Some x
  reads-payload x fits back =
      let word = payloads.word_of x in
      ap (option_and_then (λ number. option_and_then (only []) (payload_with payloads.payload_of word number))) (wide-decimal (payloads.number_of x) fits)
      ∙ ap (option_and_then (only []))
      (payload-text payloads.payload_of word (payloads.number_of x) (IsUtf8-from_ascii word (letters-ascii word (letters x).1)) ∙ back)

  reads-wire : (wire : Wire M) → IsReadableWire wire → wire_of payloads.payload_of (wire_words wire) ≡ Some wire
  reads-wire (Payload p x) h =
      let words = payloads.word_of x ∷ decimal (payloads.number_of x) ∷ [] in
      ap (option_and_then (λ n. wire_with payloads.payload_of (codes "payload") n words)) (small-decimal p h.0)
      ∙ ap (option_map (λ y. Payload p y)) (reads-payload x h.1 h.2)
  reads-wire (Ack p) h = ap (option_and_then (λ n. wire_with payloads.payload_of (codes "ack") n [])) (small-decimal p h)
  reads-wire (Safe p) h = ap (option_and_then (λ n. wire_with payloads.payload_of (codes "safe") n [])) (small-decimal p h)
  reads-wire Close h = refl

  reads-entry : (entry : Entry M) → IsReadableEntry payloads entry → entry_of payloads.payload_of (entry_words entry) ≡ Some entry
  reads-entry (Pulse p) h = ap (option_and_then (λ n. entry_with payloads.payload_of (codes "pulse") n [])) (small-decimal p h)
  reads-entry (Put w wire) h =
      ap (option_and_then (λ n. entry_with payloads.payload_of (codes "put") n (wire_words wire))) (small-decimal w h.0)
      ∙ ap (option_map (λ x. Put w x)) (reads-wire wire h.1)
  reads-entry (Take w wire) h =
      ap (option_and_then (λ n. entry_with payloads.payload_of (codes "take") n (wire_words wire))) (small-decimal w h.0)
      ∙ ap (option_map (λ x. Take w x)) (reads-wire wire h.1)

  abbrev pub IsReadableRow : Row M → Type 0
  IsReadableRow row = IsReadable payloads row

  -- with its vertex it is read as what is made of the two
  pub reads-row : {R : Type 0} (made : ℕ → Entry M → R) (row : Row M) → IsReadableRow row →
      row_with payloads.payload_of made (decimal row.vertex ∷ entry_words row.entry) ≡ Some (made row.vertex row.entry)
  reads-row made row h =
      ap (option_and_then (λ n. option_map (λ entry. made n entry) (entry_of payloads.payload_of (entry_words row.entry)))) (small-decimal row.vertex h.0)
      ∙ ap (option_map (λ entry. made row.vertex entry)) (reads-entry row.entry h.1)
