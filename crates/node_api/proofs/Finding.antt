-- The least marked place from a place on, word by word.
use Rattle.std.proofs.Common.{◌≡◌, ℕ, ◌+◌, ◌-◌, ◌*◌, ◌/◌, ◌%◌, ◌^◌, ◌<◌, ◌≤◌, ◌==◌, true, false, List, length, get_or, refl, ap, sym, ◌∙◌, arith, bit_and, w64}
use Rattle.std.specs.Int.{bit_at, trailing_zeros}
use Rattle.std.proofs.lemmas.Nat.{and_le_l}
use Rattle.std.specs.Prelude.{min}
use Rattle.std.proofs.lemmas.Nat.Bits.{bit_at-lt, bit_at-trailing_zeros, bit_at-zero, bit_at_and, bit_at_mask_below, bit_at_mask_inside, ones_shl}
use native.Mathlib.Decide.{dec_lt}
use Prim.{yes, no}
use Rattle.colour_base.specs.Words.{has_bit}
use Rattle.colour_base.proofs.Words.{has_bit-word}

-- What is left of a word, of which only the places from `from` on count.
pub record IsRest (words : List ℕ) (from word rest : ℕ) : Type 0 where
  pub inside : word < length words
  pub fits : rest < 2 ^ 64
  pub low : (b : ℕ) → b < 64 → word * 64 + b < from → bit_at rest b ≡ 0
  pub same : (b : ℕ) → b < 64 → from ≤ word * 64 + b → bit_at rest b ≡ bit_at (get_or words word 0) b
  pub past : from < (word + 1) * 64
  pub before : (place : ℕ) → from ≤ place → place < word * 64 → has_bit words place ≡ false

module _ (words : List ℕ) (from : ℕ) where
  -- the first word, without the places before
  pub rest-first : (x : ℕ) → x ≡ get_or words (from / 64) 0 → x < 2 ^ 64 → from / 64 < length words →
      IsRest words from (from / 64) (bit_and x ((2 ^ 64 - 1) * 2 ^ (from % 64) % 2 ^ 64))
  rest-first x is fits inside =
      let mask : (2 ^ 64 - 1) * 2 ^ (from % 64) % 2 ^ 64 ≡ 2 ^ 64 - 2 ^ (from % 64) = ones_shl 64 (from % 64) (omega arith) in
      record {
        inside = inside;
        fits = omega (arith, and_le_l x ((2 ^ 64 - 1) * 2 ^ (from % 64) % 2 ^ 64));
        low = λ b small earlier.
            bit_at_and x _ b ∙ (ap (λ m. min (bit_at x b) (bit_at m b)) mask
            ∙ (ap (λ m. min (bit_at x b) m) (bit_at_mask_below (from % 64) 64 b (omega arith)) ∙ omega arith));
        same = λ b small later.
            bit_at_and x _ b ∙ (ap (λ m. min (bit_at x b) (bit_at m b)) mask
            ∙ (ap (λ m. min (bit_at x b) m) (bit_at_mask_inside (from % 64) 64 b (omega arith) small)
            ∙ (omega (arith, bit_at-lt x b) ∙ ap (λ w. bit_at w b) is)));
        past = omega arith;
        before = λ place later earlier. absurd (omega arith);
      }

  module _ (word rest : ℕ) (r : IsRest words from word rest) where
    -- nothing is left: no place of the word counts
    pub none-here : rest ≡ 0 → (place : ℕ) → from ≤ place → place < (word + 1) * 64 → has_bit words place ≡ false
    none-here none place later below =
        elim (dec_lt place (word * 64)) [
          | yes earlier ↦ r.before place later earlier
          | no here ↦
              let b : ℕ = place - word * 64 in
              has_bit-word words word b place (omega arith) (omega arith)
              ∙ ap (λ x. x == 1) (sym (r.same b (omega arith) (omega arith)) ∙ (ap (λ x. bit_at x b) none ∙ bit_at-zero b))
        ]

    pub rest-next : rest ≡ 0 → (x : ℕ) → x ≡ get_or words (word + 1) 0 → x < 2 ^ 64 → word + 1 < length words → from < (word + 1) * 64 →
        IsRest words from (word + 1) x
    rest-next none x is fits inside later = record {
      inside = inside;
      fits = fits;
      low = λ b small earlier. absurd (omega arith);
      same = λ b small after. ap (λ w. bit_at w b) is;
      past = omega (arith, later);
      before = none-here none;
    }

    -- something is left: its least place is the one
    module _ (some : 0 < rest) where
      lowest : (trailing_zeros w64 rest < 64) × (bit_at rest (trailing_zeros w64 rest) ≡ 1) × ((j : ℕ) → j < trailing_zeros w64 rest → bit_at rest j ≡ 0)
      lowest = bit_at-trailing_zeros w64 rest some r.fits

      abbrev place : ℕ
      place = word * 64 + trailing_zeros w64 rest

      pub found-later : from ≤ place
      found-later =
          elim (dec_lt place from) [
            | yes earlier ↦ absurd (let e = r.low (trailing_zeros w64 rest) lowest.0 earlier in omega (arith, e, lowest.1))
            | no other ↦ omega arith
          ]

      pub found-marked : has_bit words place ≡ true
      found-marked =
          has_bit-word words word (trailing_zeros w64 rest) place lowest.0 refl
          ∙ ap (λ x. x == 1) (sym (r.same (trailing_zeros w64 rest) lowest.0 found-later) ∙ lowest.1)

      pub found-first : (q : ℕ) → from ≤ q → q < place → has_bit words q ≡ false
      found-first q later below =
          elim (dec_lt q (word * 64)) [
            | yes earlier ↦ r.before q later earlier
            | no here ↦
                let b : ℕ = q - word * 64 in
                has_bit-word words word b q (omega (arith, lowest.0)) (omega arith)
                ∙ ap (λ x. x == 1) (sym (r.same b (omega (arith, lowest.0)) (omega arith)) ∙ lowest.2 b (omega arith))
          ]
