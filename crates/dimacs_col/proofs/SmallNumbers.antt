-- Which number below 2^32 a field is, from its digits so far.
use Rattle.std.proofs.Common.{◌≡◌, ◌<◌, ◌≤◌, ◌+◌, ◌-◌, ◌*◌, ◌^◌, ◌∙◌, ℕ, Bool, true, false, Some, None, List, length}
use Rattle.std.proofs.Common.{take, drop, get_or, refl, sym, ap, arith, nat_lt}
use Rattle.std.proofs.lemmas.Bool.{lt-ltb, le-ltb}
use Rattle.std.proofs.lemmas.Fmt.{decimal_is_IsNumeral, decimal_nonempty, digits_decimal}
use Rattle.std.proofs.lemmas.Int.Digits.{digits_value_more}
use Rattle.std.proofs.lemmas.List.{take_all, drop_all}
use Rattle.std.proofs.lemmas.Str.Parse.{digits_value-take-le}
use Rattle.std.specs.Char.{is_ascii_digit}
use Rattle.std.specs.Fmt.{decimal}
use Rattle.std.specs.Str.{all_ascii_digits}
use Rattle.std.specs.Str.Parse.{digits_value}
use Rattle.dimacs_col.specs.Lines.{number_of, is_field, small_number}
use Rattle.dimacs_col.proofs.FieldNumbers.{own}
use Rattle.dimacs_col.proofs.Numbers.{digit_value-is, digit-range}

-- a field with another byte is no number
pub small-other : (field : List ℕ) → all_ascii_digits field ≡ false → small_number field ≡ None
unfolding number_of
small-other field e = other-by (is_field field) refl
  where
    other-by : (b : Bool) → is_field field ≡ b → small_number field ≡ None
    other-by true t = rw (t, e) refl
    other-by false t = rw t refl

-- the number of some digits, where it is small
pub small-digits : (field : List ℕ) → 0 < length field → all_ascii_digits field ≡ true → digits_value 10 field < 2 ^ 32 →
    small_number field ≡ Some (digits_value 10 field)
unfolding number_of
small-digits field some e low = rw (lt-ltb 0 (length field) some, e, lt-ltb (digits_value 10 field) (2 ^ 32) low) refl

-- a number that is too great already stays so
pub small-great : (field : List ℕ) → 2 ^ 32 ≤ digits_value 10 field → small_number field ≡ None
unfolding number_of
small-great field great = great-by (is_field field) (all_ascii_digits field) refl refl
  where
    great-by : (b d : Bool) → is_field field ≡ b → all_ascii_digits field ≡ d → small_number field ≡ None
    great-by false d t e = rw t refl
    great-by true false t e = rw (t, e) refl
    great-by true true t e = rw (t, e, le-ltb (digits_value 10 field) (2 ^ 32) great) refl

-- the number of one more digit
pub digits-more : (field : List ℕ) (i value digit : ℕ) → i < length field → is_ascii_digit (get_or field i 0) ≡ true →
    value ≡ digits_value 10 (take i field) → digit ≡ get_or field i 0 - 48 → digits_value 10 (take (i + 1) field) ≡ value * 10 + digit
digits-more field i value digit h e v d =
    let r = digit-range (get_or field i 0) e in
    let one = digit_value-is (get_or field i 0) r.0 r.1 in
    digits_value_more 10 field i h ∙ rw (← v, one, ← d) refl

-- a value of the digits so far that is too great
pub great-front : (field : List ℕ) (i value digit : ℕ) → digits_value 10 (take i field) ≡ value * 10 + digit → 4294967296 ≤ value * 10 + digit →
    small_number field ≡ None
great-front field i value digit e great = small-great field (omega (arith, e, digits_value-take-le 10 field i (omega arith)))

pub small-end : (field : List ℕ) (i value : ℕ) → length field ≤ i → 0 < length field → value < 2 ^ 32 → value ≡ digits_value 10 (take i field) →
    all_ascii_digits field ≡ all_ascii_digits (drop i field) → Some value ≡ small_number field
small-end field i value all some low v e =
    let digits : all_ascii_digits field ≡ true = e ∙ rw (drop_all i field all) refl in
    let is : value ≡ digits_value 10 field = v ∙ ap (digits_value 10) (take_all i field all) in
    ap Some is ∙ sym (small-digits field some digits (rw (← is) low))

pub small-empty : (field : List ℕ) → length field ≡ 0 → small_number field ≡ None
unfolding number_of
small-empty field none = let here : nat_lt 0 (length field) ≡ false = le-ltb 0 (length field) (omega (arith, none)) in rw here refl

-- a number as it is written
pub small-decimal : (n : ℕ) → n < 2 ^ 32 → small_number (decimal n) ≡ Some n
small-decimal n h =
    let wide : n < 2 ^ 64 = omega arith in
    let value : digits_value 10 (decimal n) ≡ n = (decimal_is_IsNumeral n wide).1 in
    small-digits (decimal n) (decimal_nonempty n wide) (digits_decimal own n wide) (rw value h) ∙ ap Some value
