-- Numbers that stop at the greatest `u32`.
use Rattle.std.proofs.Common.{◌≡◌, ◌<◌, ◌≤◌, ◌+◌, ◌-◌, ◌*◌, ◌&&◌, ◌∙◌, sym, suc, zero, ℕ, Bool, true, false, Some, None, List, [], ◌∷◌, length, drop, get_or}
use Rattle.std.proofs.Common.{refl, arith, add-one, ap}
use Rattle.std.proofs.lemmas.List.{drop_all}
use Rattle.std.proofs.Math.Seq.{drop-cons}
use Rattle.std.proofs.lemmas.Bool.{lt-ltb, le-ltb, leb-true, and_parts}
use lib.Dec.{leb}
use Rattle.std.specs.Str.{all_ascii_digits}
use Rattle.std.specs.Str.Parse.{digits_value_after}
use Rattle.std.specs.Char.{digit_value, is_ascii_digit}
use Rattle.dimacs_col.specs.Lines.{Line, number_of, is_field, field_at}
use Rattle.dimacs_col.specs.Kinds.{is_format}
use Rattle.std.specs.List.{slice_get}
use Rattle.dimacs_col.specs.State.{kept, kept_number}

kept-step : (m n d : ℕ) → kept m ≡ kept n → kept (m * 10 + d) ≡ kept (n * 10 + d)
kept-step m n d e = grind arith

-- what is kept of a number decides what is kept after more digits
pub kept-after : (m n : ℕ) (ds : List ℕ) → kept m ≡ kept n → kept (digits_value_after 10 m ds) ≡ kept (digits_value_after 10 n ds)
kept-after m n [] e = e
kept-after m n (d ∷ ds) e = kept-after (m * 10 + digit_value d) (n * 10 + digit_value d) ds (kept-step m n (digit_value d) e)

-- a field with another byte is no number, and one of digits alone is one
pub kept_number-none : (field : List ℕ) → all_ascii_digits field ≡ false → kept_number field ≡ None
unfolding number_of
kept_number-none field e = none-by (is_field field) refl
  where
    none-by : (b : Bool) → is_field field ≡ b → kept_number field ≡ None
    none-by true t = rw (t, e) refl
    none-by false t = rw t refl

pub kept_number-some : (field : List ℕ) → 0 < length field → all_ascii_digits field ≡ true → kept_number field ≡ Some (kept (digits_value_after 10 0 field))
unfolding number_of
kept_number-some field some e = rw (lt-ltb 0 (length field) some, e) refl

pub digits-front : (field : List ℕ) (i : ℕ) (b : Bool) → i < length field → is_ascii_digit (get_or field i 0) ≡ b →
    all_ascii_digits (drop i field) ≡ (b && all_ascii_digits (drop (i + 1) field))
digits-front field i b h e = rw (add-one, drop-cons field i 0 h, e) refl

pub digit_value-is : (x : ℕ) → 48 ≤ x → x ≤ 57 → digit_value x ≡ x - 48
digit_value-is x low high = let h : x < 58 = omega arith in rw (le-ltb x 48 low, lt-ltb x 58 h) refl

pub digit-range : (x : ℕ) → is_ascii_digit x ≡ true → (48 ≤ x) × (x ≤ 57)
digit-range x e = let p = and_parts (leb 48 x) (leb x 57) e in (leb-true 48 x p.0, leb-true x 57 p.1)

pub kept-front : (field : List ℕ) (i value digit next : ℕ) → i < length field → is_ascii_digit (get_or field i 0) ≡ true → digit ≡ get_or field i 0 - 48 →
    next ≡ kept (kept (value * 10) + digit) → kept (digits_value_after 10 value (drop i field)) ≡ kept (digits_value_after 10 next (drop (i + 1) field))
kept-front field i value digit next h e d n =
    let r = digit-range (get_or field i 0) e in
    let v : digit_value (get_or field i 0) ≡ digit = digit_value-is (get_or field i 0) r.0 r.1 ∙ sym d in
    let same : kept (value * 10 + digit) ≡ kept next = grind (arith, n) in
    rw (add-one, drop-cons field i 0 h) (kept-after (value * 10 + digit_value (get_or field i 0)) next (drop (suc i) field) (ap (λ x. kept (value * 10 + x)) v
    ∙ same))

pub kept-end : (field : List ℕ) (i value : ℕ) → length field ≤ i → value < 4294967296 → 0 < length field →
    kept (digits_value_after 10 0 field) ≡ kept (digits_value_after 10 value (drop i field)) → all_ascii_digits field ≡ all_ascii_digits (drop i field) →
    Some value ≡ kept_number field
kept-end field i value h small some e d =
    let all : all_ascii_digits field ≡ true = d ∙ rw (drop_all i field h) refl in
    let v : kept (digits_value_after 10 0 field) ≡ kept value = e ∙ rw (drop_all i field h) refl in
    let is : kept value ≡ value = grind arith in
    sym (kept_number-some field some all ∙ ap Some (v ∙ is))

-- a field that is missing is no number
pub kept_number-missing : (line : Line) (place : ℕ) → slice_get line place ≡ None → kept_number (field_at line place) ≡ None
unfolding number_of
kept_number-missing [] place e = refl
kept_number-missing (f ∷ fs) zero e = absurd cc
kept_number-missing (f ∷ fs) (suc place) e = kept_number-missing fs place e

pub is_format-missing : (line : Line) (place : ℕ) → slice_get line place ≡ None → is_format (field_at line place) ≡ false
unfolding is_format
is_format-missing [] place e = refl
is_format-missing (f ∷ fs) zero e = absurd cc
is_format-missing (f ∷ fs) (suc place) e = is_format-missing fs place e
