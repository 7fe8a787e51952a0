-- Words of 64 bits: what setting one bit does, and the test of one bit.
use Rattle.std.proofs.Common.{◌≡◌, ◌≢◌, ℕ, zero, suc, ◌+◌, ◌*◌, ◌/◌, ◌%◌, ◌^◌, ◌<◌, ◌==◌, false, List, length, get_or, set, replicate}
use Rattle.std.proofs.Common.{refl, ap, sym, ◌∙◌, arith, bit_and, bit_or, nat_eq, w64, inl, inr}
use Rattle.std.specs.Prelude.{not, ◌||◌}
use Rattle.std.specs.Int.{bit_at}
use Rattle.std.proofs.lemmas.Bool.{cases_eq}
use Rattle.std.proofs.lemmas.Bool.Decides.{nat_tests}
use Rattle.std.proofs.lemmas.List.{get_or-replicate, get_or-set_other, get_or-set_same, get_or_past, length-replicate}
use Rattle.std.proofs.Math.Pow.{pow_pos}
use Rattle.std.proofs.lemmas.Nat.{one_shl}
use Rattle.std.proofs.lemmas.Nat.Bits.{and_pow, bit_at-lt, bit_at-zero, bit_at_set_other, bit_at_set_same}
use native.Mathlib.Decide.{dec_lt}
use Prim.{yes, no}
use Rattle.colour_base.specs.Words.{has_bit}

pub zero_word : (n i : ℕ) → get_or {A = ℕ} (replicate n 0) i 0 ≡ 0
zero_word n i =
    elim (dec_lt i n) [
      | yes below ↦ get_or-replicate n i 0 0 below
      | no past ↦ get_or_past (replicate n 0) i 0 (let len : length {A = ℕ} (replicate n 0) ≡ n = length-replicate n 0 in omega arith)
    ]

-- words without a one
pub no_bit : (n c : ℕ) → has_bit (replicate n 0) c ≡ false
unfolding has_bit
no_bit n c = rw (zero_word n (c / 64), bit_at-zero (c % 64)) refl

set_in_word : (word k i : ℕ) → k < 64 → (bit_at (bit_or word (1 * 2 ^ k % 2 ^ 64)) i == 1) ≡ ((i == k) || (bit_at word i == 1))
set_in_word word k i h =
    elim (cases_eq i k) [
      | inl met ↦ rw (met, bit_at_set_same w64 word k h) (grind (arith, nat_tests))
      | inr apart ↦ rw (bit_at_set_other w64 word k h i apart) (grind (arith, nat_tests))
    ]

same_place : (c k : ℕ) → c / 64 ≡ k / 64 → (c % 64 == k % 64) ≡ (c == k)
same_place c k h = grind (arith, nat_tests)

-- a bit that is set, in words whose other bits stay
pub has_bit-set : (words : List ℕ) (k c : ℕ) → k / 64 < length words →
    has_bit (set words (k / 64) (bit_or (get_or words (k / 64) 0) (1 * 2 ^ (k % 64) % 2 ^ 64))) c ≡ ((c == k) || has_bit words c)
unfolding has_bit
has_bit-set words k c h =
    let word : ℕ = get_or words (k / 64) 0 in
    let more : ℕ = bit_or word (1 * 2 ^ (k % 64) % 2 ^ 64) in
    elim (cases_eq (c / 64) (k / 64)) [
      | inl met ↦
          let here : get_or (set words (k / 64) more) (c / 64) 0 ≡ more = rw met (get_or-set_same words (k / 64) more 0 h) in
          ap (λ w. bit_at w (c % 64) == 1) here
          ∙ set_in_word word (k % 64) (c % 64) (omega arith)
          ∙ ap (λ b. b || (bit_at word (c % 64) == 1)) (same_place c k met)
          ∙ ap (λ w. (c == k) || (bit_at (get_or words w 0) (c % 64) == 1)) (sym met)
      | inr apart ↦ rw (get_or-set_other words (k / 64) (c / 64) more 0 apart) (let other : c ≢ k = (λ e. apart (ap (λ n. n / 64) e)) in
          grind (arith, nat_tests))
    ]

one_or_none : (b p : ℕ) → b < 2 → 0 < p → not (nat_eq (b * p) 0) ≡ (b == 1)
one_or_none zero p h e = grind (arith, nat_tests)
one_or_none (suc zero) p h e = grind (arith, nat_tests)
one_or_none (suc (suc b)) p h e = absurd (omega arith)

-- the test of one bit
pub has_bit-test : (words : List ℕ) (k : ℕ) → not (nat_eq (bit_and (get_or words (k / 64) 0) (1 * 2 ^ (k % 64) % 2 ^ 64)) 0) ≡ has_bit words k
unfolding has_bit
has_bit-test words k =
    let word : ℕ = get_or words (k / 64) 0 in
    rw (one_shl (k % 64) 64 (omega arith), and_pow word (k % 64)) (one_or_none (bit_at word (k % 64)) (2 ^ (k % 64)) (bit_at-lt word (k % 64))
    (pow_pos (k % 64)))

-- a bit of a word
pub has_bit-word : (words : List ℕ) (i b c : ℕ) → b < 64 → c ≡ i * 64 + b → has_bit words c ≡ (bit_at (get_or words i 0) b == 1)
unfolding has_bit
has_bit-word words i b c h e =
    let word : c / 64 ≡ i = omega arith in
    let place : c % 64 ≡ b = omega arith in
    rw (word, place) refl
