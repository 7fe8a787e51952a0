-- An option with a default has a row in the end, and reads as a number of its range.
use Rattle.std.proofs.Common.{◌≡◌, ◌∙◌, ◌||◌, ◌&&◌, ◌^◌, ◌<◌, ◌≤◌, ◌++◌, ℕ, Bool, true, false, List, [], ◌∷◌, Some, is_some, cond, find, arith, refl, ap, subst}
use Rattle.std.specs.Prelude.{nat_le, nat_lt, option_and_then, option_map, slice_get}
use Rattle.std.specs.Str.{bytes_eq}
use Rattle.std.specs.Str.Parse.{digits_value, without_leading_plus}
use Rattle.std.proofs.lemmas.Bool.{leb-true, lt-ltb, or_right}
use Rattle.std.proofs.lemmas.Slice.Eq.{bytes_eq-Decides}
use Rattle.clap.specs.Values.{read_as, reading_of}
use Rattle.clap.specs.Kinds.{value_kinds, values_kinds}
use Rattle.clap.specs.Walk.{Row, Rule, Text, at_row, default_rows, has_row, is_empty, more_values, reading_by, row_text, with_default}
use Rattle.clap.specs.ValueTests.{is_numeral, is_unsigned_in}
use Rattle.clap.specs.declared.builder.value_parser.ValueParser.{ValueParser}
use Rattle.clap.specs.declared.builder.value_parser.ValueParser.TheVariants.{Unsigned}
use Rattle.clap.specs.declared.builder.value_parser.Reading.TheVariants.{AsWritten}
use Rattle.clap.specs.declared.error.kind.ErrorKind.{ErrorKind}
use Rattle.clap.specs.declared.error.kind.ErrorKind.TheVariants.{ValueValidation}
use Rattle.clap.specs.declared.parser.matches.ValueSource.{ValueSource}
use Rattle.clap.specs.declared.parser.matches.ValueSource.TheVariants.{DefaultValue}
use Rattle.clap.proofs.WalkLemmas.{both}
use Rattle.command_line.specs.RunOptions.{number_below, number_of}
use Rattle.command_line.proofs.Passing.{AllPassed, Passed, split}

or_more : (b x y : Bool) → (x ≡ true → y ≡ true) → (b || x) ≡ true → (b || y) ≡ true
or_more true x y f h = refl
or_more false x y f h = f h

row_stays : (id k : Text) (s : ValueSource) (values : List Text) (missing rows : List Row) → has_row k rows ≡ true
    → has_row k (at_row id (more_values s values) missing rows) ≡ true
row_stays id k s values missing [] h = cc
row_stays id k s values missing (r ∷ rs) h = go (bytes_eq r.id id) (row_stays id k s values missing rs)
  where
    go : (b : Bool) → (has_row k rs ≡ true → has_row k (at_row id (more_values s values) missing rs) ≡ true)
        → has_row k (cond b (more_values s values r ++ rs) (r ∷ at_row id (more_values s values) missing rs)) ≡ true
    go true rest = h
    go false rest = or_more (bytes_eq r.id k) _ _ rest h

row_comes : (id : Text) (s : ValueSource) (values : List Text) (x : Row) → bytes_eq x.id id ≡ true → (rows : List Row)
    → has_row id (at_row id (more_values s values) (x ∷ []) rows) ≡ true
row_comes id s values x is [] = ap (λ b. b || false) is
row_comes id s values x is (r ∷ rs) = go (bytes_eq r.id id) refl (row_comes id s values x is rs)
  where
    go : (b : Bool) → bytes_eq r.id id ≡ b → has_row id (at_row id (more_values s values) (x ∷ []) rs) ≡ true
        → has_row id (cond b (more_values s values r ++ rs) (r ∷ at_row id (more_values s values) (x ∷ []) rs)) ≡ true
    go true e rest = ap (λ b. b || has_row id rs) e
    go false e rest = or_right (bytes_eq r.id id) _ rest

-- an option with a default gets a row
pub default_comes : (a : Rule) (rows : List Row) → is_empty a.defaults ≡ false → has_row a.id (with_default rows a) ≡ true
default_comes a rows some = go (has_row a.id rows) refl
  where
    inner : (ds : List Text) → is_empty ds ≡ false → has_row a.id (default_rows a.id (reading_by a) ds rows) ≡ true
    inner [] e = cc
    inner (v ∷ vs) e = row_comes a.id DefaultValue (v ∷ vs) _ ((bytes_eq-Decides a.id a.id).1 refl) rows

    go : (b : Bool) → has_row a.id rows ≡ b → has_row a.id (cond b rows (default_rows a.id (reading_by a) a.defaults rows)) ≡ true
    go true e = e
    go false e = inner a.defaults some

-- and a row stays when another option gets its default
pub default_keeps : (a : Rule) (k : Text) (rows : List Row) → has_row k rows ≡ true → has_row k (with_default rows a) ≡ true
default_keeps a k rows h = go (has_row a.id rows)
  where
    inner : (ds : List Text) → has_row k (default_rows a.id (reading_by a) ds rows) ≡ true
    inner [] = h
    inner (v ∷ vs) = row_stays a.id k DefaultValue (v ∷ vs) _ rows h

    go : (b : Bool) → has_row k (cond b rows (default_rows a.id (reading_by a) a.defaults rows)) ≡ true
    go true = h
    go false = inner a.defaults

yes : (b : Bool) (k : ErrorKind) → ◌≡◌ {A = List ErrorKind} (cond b [] (k ∷ [])) [] → b ≡ true
yes true k e = refl
yes false k e = cc

first_passes : (low high bound : ℕ) (values : List Text) → values_kinds false (Unsigned low high) values ≡ [] → is_some (slice_get values 0) ≡ true
    → high < bound
    → (t : Text) × (n : ℕ) × (slice_get values 0 ≡ Some t) × (number_below bound t ≡ Some n) × (low ≤ n) × (n ≤ high)
first_passes low high bound [] kinds some lt = cc
first_passes low high bound (t ∷ ts) kinds some lt =
    let parser = Unsigned low high in
    let none = (split (value_kinds false parser t) (values_kinds false parser ts) kinds).0 in
    let passed : is_unsigned_in low high t ≡ true = yes (is_unsigned_in low high t) ValueValidation none in
    let digits = without_leading_plus t in
    let n = digits_value 10 digits in
    let numeral = both (is_numeral digits) (nat_lt n (2 ^ 64) && (nat_le low n && nat_le n high)) passed in
    let fits = both (nat_lt n (2 ^ 64)) (nat_le low n && nat_le n high) numeral.1 in
    let between = both (nat_le low n) (nat_le n high) fits.1 in
    let most : n ≤ high = leb-true _ _ between.1 in
    let below : number_below bound t ≡ Some n = rw (numeral.0, lt-ltb n bound (omega (arith, most, lt))) refl in
    (t, n, refl, below, leb-true _ _ between.0, most)

module _ (parser_at : Text → ValueParser) where
  -- an option that has a row has a first value, which passed
  pub row_found : (id : Text) (rows : List Row) → has_row id rows ≡ true → AllPassed parser_at rows
      → (r : Row) × (find (λ x. bytes_eq x.id id) rows ≡ Some r) × (bytes_eq r.id id ≡ true) × Passed parser_at r
  row_found id [] h all = cc
  row_found id (x ∷ xs) h all = go (bytes_eq x.id id) refl h (λ k. row_found id xs k all.1)
    where
      go : (b : Bool) → bytes_eq x.id id ≡ b → (b || has_row id xs) ≡ true
          → (has_row id xs ≡ true → (r : Row) × (find (λ y. bytes_eq y.id id) xs ≡ Some r) × (bytes_eq r.id id ≡ true) × Passed parser_at r)
          → (r : Row) × (cond b (Some x) (find (λ y. bytes_eq y.id id) xs) ≡ Some r) × (bytes_eq r.id id ≡ true) × Passed parser_at r
      go true e k rest = (x, refl, e, all.0)
      go false e k rest = rest k

  -- the number of an option with a range and a row
  pub number_found : (rows : List Row) (id : Text) (low high bound : ℕ) → has_row id rows ≡ true → AllPassed parser_at rows
      → parser_at id ≡ Unsigned low high → high < bound
      → (n : ℕ) × (number_of bound id rows ≡ Some n) × (low ≤ n) × (n ≤ high)
  number_found rows id low high bound has all at lt =
      let found = row_found id rows has all in
      let row = found.0 in
      let is : parser_at row.id ≡ Unsigned low high = ap parser_at ((bytes_eq-Decides row.id id).0 found.2) ∙ at in
      let kinds : values_kinds false (Unsigned low high) row.values ≡ [] = subst (λ p. values_kinds false p row.values ≡ []) is found.3.0 in
      let how : row.reading ≡ AsWritten = found.3.1 ∙ ap reading_of is in
      let first = first_passes low high bound row.values kinds found.3.2 lt in
      let read : number_of bound id rows ≡ Some first.1 =
      ap (λ o. option_and_then (number_below bound) (option_and_then row_text o)) found.1
      ∙ ap (λ w. option_and_then (number_below bound) (option_map (read_as w) (slice_get row.values 0))) how
      ∙ ap (λ o. option_and_then (number_below bound) (option_map (read_as AsWritten) o)) first.2
      ∙ first.3 in
      (first.1, read, first.4, first.5)
