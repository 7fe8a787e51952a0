-- The number that clap reads of an option is the one that its text is.
use Rattle.std.proofs.Common.{◌≡◌, ◌∙◌, ◌^◌, ◌&&◌, ℕ, Bool, true, false, List, [], ◌∷◌, Option, Some, None, Result, Ok, Err, ap, refl, sym, cond, length}
use Rattle.std.proofs.Common.{nat_lt}
use Rattle.std.proofs.lemmas.Bool.{lt-ltb, ltb-true}
use Rattle.std.specs.Prelude.{option_and_then}
use Rattle.std.specs.List.{list_all}
use Rattle.std.specs.Char.{digit_value}
use Rattle.std.specs.Str.Parse.{AllDigits, ParsesUnsigned, digits_value, without_leading_plus}
use Rattle.clap.specs.Matches.{ReadsOne}
use Rattle.clap.specs.Words.{Text, one_text, rows_of}
use Rattle.clap.specs.ValueTests.{is_numeral}
use Rattle.clap.specs.declared.parser.matches.Found.{Found}
use Rattle.clap.proofs.WalkLemmas.{both, one_text-rows}
use Rattle.command_line.specs.RunOptions.{number_below, number_of}

digits_pass : (ds : List ℕ) → AllDigits 10 ds → list_all (λ d. nat_lt (digit_value d) 10) ds ≡ true
digits_pass [] h = refl
digits_pass (d ∷ ds) h = rw (lt-ltb (digit_value d) 10 h.0) (digits_pass ds h.1)

digits_from : (ds : List ℕ) → list_all (λ d. nat_lt (digit_value d) 10) ds ≡ true → AllDigits 10 ds
digits_from [] e = tt
digits_from (d ∷ ds) e =
    let parts = both _ _ e in
    (ltb-true _ _ parts.0, digits_from ds parts.1)

module _ {E : Type 0} (G : List ℕ → Result ℕ E → Type 0) (k : ℕ)
    (only : (t : List ℕ) (x : Result ℕ E) → G t x → ParsesUnsigned k 10 t x) where
  parsed : (t : Text) (r : Option ℕ) → ReadsOne G t r → r ≡ number_below (2 ^ k) t
  parsed t (Some v) h =
      let is = only t (Ok v) h in
      let digits = without_leading_plus t in
      rw (lt-ltb 0 (length digits) is.0.0.0, digits_pass digits is.0.0.1, lt-ltb (digits_value 10 digits) (2 ^ k) is.0.1) (ap Some is.1)
  parsed t None h = go (is_numeral digits && nat_lt (digits_value 10 digits) (2 ^ k)) refl
    where
      digits : List ℕ
      digits = without_leading_plus t

      go : (b : Bool) → (is_numeral digits && nat_lt (digits_value 10 digits) (2 ^ k)) ≡ b → None ≡ cond b (Some (digits_value 10 digits)) None
      go false e = refl
      go true e =
          let outer = both _ _ e in
          let inner = both _ _ outer.0 in
          absurd (only t (Err h.0) h.1 ((ltb-true _ _ inner.0, digits_from digits inner.1), ltb-true _ _ outer.1))

  -- what `get_one` returns is the number of the option's text
  pub number_read : (f : Found) (name : Text) (r : Option ℕ) → (one_text f name ≡ None → r ≡ None)
      → ((t : List ℕ) → one_text f name ≡ Some t → ReadsOne G t r) → r ≡ number_of (2 ^ k) name (rows_of f)
  number_read f name r none value = go (one_text f name) refl
    where
      go : (o : Option Text) → one_text f name ≡ o → r ≡ number_of (2 ^ k) name (rows_of f)
      go None e = none e ∙ ap (option_and_then (number_below (2 ^ k))) (sym e ∙ one_text-rows f name)
      go (Some t) e = parsed t r (value t e) ∙ ap (option_and_then (number_below (2 ^ k))) (sym e ∙ one_text-rows f name)
