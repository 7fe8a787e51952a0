-- Which number a field is, from what std reads of it, and whether it is an identifier.
use Rattle.std.proofs.Common.{◌≡◌, ◌≢◌, ◌<◌, ◌^◌, ◌∙◌, ℕ, Bool, true, false, Option, Some, None, Result, Ok, Err, MatchOption, MatchResult, List, [], ◌∷◌}
use Rattle.std.proofs.Common.{suc, zero, ap, arith, get_or, length, nat_lt, refl, subst, sym, if◌then◌else◌, option_and_then}
use Rattle.std.proofs.lemmas.Bool.{lt-ltb, le-ltb, ltb-true}
use Rattle.std.proofs.lemmas.Fmt.{IsAscii-from_digits}
use Rattle.std.proofs.lemmas.Str.{IsUtf8-from_ascii}
use Rattle.std.proofs.lemmas.Str.Parse.{IsNumeralModel, numerals_by_value, parse_plain, tells_all_ascii_digits}
use Rattle.std.specs.Result.{OkIff, result_ok}
use Rattle.std.specs.Str.{IsUtf8, all_ascii_digits}
use Rattle.std.specs.Str.Parse.{ParsesUnsigned, digits_value}
use Rattle.std.specs.List.{slice_get}
use Rattle.dimacs_col.specs.Lines.{Line, field_at, identifier_in, identifier_of, is_field, is_identifier, number_of}
use Rattle.dimacs_col.specs.declared.fields.IdentifierField.TheVariants.{NoNumber, TooGreat, Value}

pub own : IsNumeralModel (λ ds. all_ascii_digits ds ≡ true) (digits_value 10)
own = numerals_by_value (λ ds. all_ascii_digits ds ≡ true) tells_all_ascii_digits

pub number-empty : (field : List ℕ) → length field ≡ 0 → number_of field ≡ None
unfolding number_of
number-empty field none = let here : is_field field ≡ false = le-ltb 0 (length field) (omega (arith, none)) in rw here refl

-- a field with another byte than digits is no number
number-other : (field : List ℕ) → all_ascii_digits field ≡ false → number_of field ≡ None
unfolding number_of
number-other field e = by-field (is_field field) refl
  where
    by-field : (b : Bool) → is_field field ≡ b → number_of field ≡ None
    by-field true t = rw (t, e) refl
    by-field false t = rw t refl

pub number-plus : (field : List ℕ) → get_or field 0 0 ≡ 43 → number_of field ≡ None
unfolding number_of
number-plus [] e = refl
number-plus (c ∷ cs) e = number-other (c ∷ cs) (let first : c ≡ 43 = e in rw first refl)

number-text : (field : List ℕ) → (IsUtf8 field → ⊥) → number_of field ≡ None
number-text field never = by-digits (all_ascii_digits field) refl
  where
    by-digits : (b : Bool) → all_ascii_digits field ≡ b → number_of field ≡ None
    by-digits true e = absurd (never (IsUtf8-from_ascii field (IsAscii-from_digits field (own.to field e))))
    by-digits false e = number-other field e

-- a field that doesn't begin with a sign, as text
pub unsigned-is : {A E : Type 0} (now : A → List ℕ) (field : List ℕ) (rest : E → Type 0) (r : Result A E)
    → MatchResult r (λ s. (now s ≡ field) × IsUtf8 field) (λ e. (IsUtf8 field → ⊥) × rest e) → get_or field 0 0 ≢ 43
    → MatchOption (result_ok r) (number_of field ≡ None) (λ s. (now s ≡ field) × (get_or field 0 0 ≢ 43))
unsigned-is now field rest (Ok s) is plain = (is.0, plain)
unsigned-is now field rest (Err e) is plain = number-text field is.0

-- the number of so many binary digits that a field is
abbrev below : ℕ → List ℕ → Option ℕ
below k field = option_and_then (λ n. if nat_lt n (2 ^ k) then Some n else None) (number_of field)

below-digits : (k : ℕ) (field : List ℕ) → all_ascii_digits field ≡ true → 0 < length field → digits_value 10 field < 2 ^ k →
    below k field ≡ Some (digits_value 10 field)
unfolding number_of
below-digits k field e some low = rw (lt-ltb 0 (length field) some, e, lt-ltb (digits_value 10 field) (2 ^ k) low) refl

below-none : (k : ℕ) (field : List ℕ) → ((all_ascii_digits field ≡ true) × (0 < length field) × (digits_value 10 field < 2 ^ k) → ⊥) → below k field ≡ None
unfolding number_of
below-none k field never = by-field (is_field field) (all_ascii_digits field) (nat_lt (digits_value 10 field) (2 ^ k)) refl refl refl
  where
    by-field : (b d l : Bool) → is_field field ≡ b → all_ascii_digits field ≡ d → nat_lt (digits_value 10 field) (2 ^ k) ≡ l → below k field ≡ None
    by-field false d l t e m = rw t refl
    by-field true false l t e m = rw (t, e) refl
    by-field true true false t e m = rw (t, e, m) refl
    by-field true true true t e m = absurd (never (e, ltb-true 0 (length field) t, ltb-true (digits_value 10 field) (2 ^ k) m))

pub parsed : {E : Type 0} (k : ℕ) (field bs : List ℕ) (r : Result ℕ E) → bs ≡ field → get_or field 0 0 ≢ 43 → ParsesUnsigned k 10 bs r →
    result_ok r ≡ below k field
parsed k field bs r same plain is =
    by-result r (parse_plain own k field r (subst (λ b. ParsesUnsigned k 10 b r) same is) plain)
  where
    by-result : {E : Type 0} (r : Result ℕ E) →
        OkIff r ((all_ascii_digits field ≡ true) × (0 < length field) × (digits_value 10 field < 2 ^ k)) (digits_value 10 field)
        → result_ok r ≡ below k field
    by-result (Ok n) ((e, some, low), value) = ap (λ v. Some v) value ∙ sym (below-digits k field e some low)
    by-result (Err e) never = sym (below-none k field never)

-- ---- identifiers
pub identifier-missing : (line : Line) (place : ℕ) → slice_get line place ≡ None → identifier_in (field_at line place) ≡ NoNumber
unfolding number_of
identifier-missing [] place e = refl
identifier-missing (f ∷ fs) zero e = absurd cc
identifier-missing (f ∷ fs) (suc place) e = identifier-missing fs place e

-- a field in which an identifier was found spells it
pub value-from : (field : List ℕ) (id : ℕ) → identifier_in field ≡ Value id → (number_of field ≡ Some id) × (is_identifier id ≡ true)
value-from field id e = from-by (number_of field) refl
  where
    fits-by : (n : ℕ) (b : Bool) → is_identifier n ≡ b → identifier_of (Some n) ≡ Value id → (Some n ≡ Some id) × (is_identifier id ≡ true)
    fits-by n true t f = let same : Value n ≡ Value id = (rw t at f) in let is : n ≡ id = cc in (ap Some is, ap is_identifier (sym is) ∙ t)
    fits-by n false t f = let none : TooGreat ≡ Value id = (rw t at f) in absurd cc

    from-by : (o : Option ℕ) → number_of field ≡ o → (number_of field ≡ Some id) × (is_identifier id ≡ true)
    from-by None o = let none : NoNumber ≡ Value id = (rw o at e) in absurd cc
    from-by (Some n) o =
        let found = fits-by n (is_identifier n) refl (rw o at e) in
        (o ∙ found.0, found.1)
