-- Rows of values that passed the parsers of their options, and what adding to them keeps.
use Rattle.std.proofs.Common.{◌≡◌, ◌∙◌, ◌||◌, ◌++◌, ◌==◌, ◌⊎◌, Bool, true, false, List, [], ◌∷◌, Some, inl, inr, is_some, arith, cond, find, length}
use Rattle.std.proofs.Common.{refl, sym, ap, subst}
use Rattle.std.specs.Prelude.{IfSome, slice_get}
use Rattle.std.specs.List.{AllByRecursion}
use Rattle.std.specs.Str.{bytes_eq}
use Rattle.std.proofs.lemmas.Bool.{ne_eqb}
use Rattle.std.proofs.lemmas.Slice.Eq.{bytes_eq-Decides}
use Rattle.clap.specs.Values.{reading_of}
use Rattle.clap.specs.Facts.{parser_of_value, unwrap_or_range}
use Rattle.clap.specs.Kinds.{Kinds, or_else, range_kinds, request_kinds, values_kinds}
use Rattle.clap.specs.Walk.{Row, Rule, Text, action_of, at_row, default_rows, has_row, is_empty, more_values, reading_by, used, used_as, values_or_missing}
use Rattle.clap.specs.Walk.{with_default, with_values, without}
use Rattle.clap.specs.Faults.{action_fault, default_fault, given_default_fault, set_fault, use_fault, values_fault}
use Rattle.clap.specs.declared.error.kind.ErrorKind.TheVariants.{WrongNumberOfValues}
use Rattle.clap.specs.declared.builder.action.ArgAction.TheVariants.{Help, Set, SetTrue}
use Rattle.clap.specs.declared.builder.value_parser.ValueParser.{ValueParser}
use Rattle.clap.specs.declared.builder.value_parser.Reading.{Reading}
use Rattle.clap.specs.declared.parser.matches.ValueSource.{ValueSource}
use Rattle.clap.specs.declared.parser.matches.ValueSource.TheVariants.{CommandLine, DefaultValue}
use Rattle.clap.proofs.FaultLemmas.{past}

pub split : (a b : Kinds) → or_else a b ≡ [] → (a ≡ []) × (b ≡ [])
split [] b e = (refl, e)
split (k ∷ ks) b e = cc

more_kinds : (p : ValueParser) (xs ys : List Text) → values_kinds false p xs ≡ [] → values_kinds false p ys ≡ [] → values_kinds false p (xs ++ ys) ≡ []
more_kinds p [] ys e f = f
more_kinds p (x ∷ xs) ys e f =
    let s = split _ _ e in
    past _ _ s.0 ∙ more_kinds p xs ys s.1 f

more_first : (xs ys : List Text) → is_some (slice_get xs 0) ≡ true → is_some (slice_get (xs ++ ys) 0) ≡ true
more_first [] ys e = cc
more_first (x ∷ xs) ys e = refl

no_value : (xs : List Text) → range_kinds 0 0 (length xs) ≡ [] → xs ≡ []
no_value [] e = refl
no_value (x ∷ xs) e =
    let never : (0 == length (x ∷ xs)) ≡ false = ne_eqb 0 (length (x ∷ xs)) (λ none. omega (arith, none)) in
    let bad : cond false [] (WrongNumberOfValues ∷ []) ≡ [] = subst (λ b. cond b [] (WrongNumberOfValues ∷ []) ≡ []) never e in
    cc

one_value : (a : Rule) (xs : List Text) → range_kinds 1 1 (length xs) ≡ [] → (is_some (slice_get xs 0) ≡ true) × (values_or_missing a xs ≡ xs)
one_value a [] e = cc
one_value a (x ∷ xs) e = (refl, refl)

append_all : (P : Row → Type 0) (xs ys : List Row) → AllByRecursion P xs → AllByRecursion P ys → AllByRecursion P (xs ++ ys)
append_all P [] ys p q = q
append_all P (x ∷ xs) ys p q = (p.0, append_all P xs ys p.1 q)

at_row_all : (P : Row → Type 0) (id : Text) (change : Row → List Row) (missing rows : List Row) → AllByRecursion P rows
    → ((r : Row) → bytes_eq r.id id ≡ true → P r → AllByRecursion P (change r)) → AllByRecursion P missing → AllByRecursion P (at_row id change missing rows)
at_row_all P id change missing [] all step end = end
at_row_all P id change missing (r ∷ rs) all step end = go (bytes_eq r.id id) refl (at_row_all P id change missing rs all.1 step end)
  where
    go : (b : Bool) → bytes_eq r.id id ≡ b → AllByRecursion P (at_row id change missing rs)
        → AllByRecursion P (cond b (change r ++ rs) (r ∷ at_row id change missing rs))
    go true e rest = append_all P (change r) rs (step r e all.0) all.1
    go false e rest = (all.0, rest)

-- ---- with the parser that each option has

module _ (parser_at : Text → ValueParser) where
  -- a flag without a value, whose use counts as one
  abbrev pub IsFlag : Rule → Type 0
  IsFlag a = (action_of a ≡ SetTrue) × (a.range ≡ Some (record { start_inclusive = 0; end_inclusive = 0 })) × (is_some (slice_get a.missing 0) ≡ true)

  -- an option with one value, the call for help, or a flag
  abbrev pub Expected : Rule → Type 0
  Expected a = (a.ignore_case ≡ false) × (parser_of_value a.parser ≡ parser_at a.id)
      × (((action_of a ≡ Set) × (a.range ≡ Some (record { start_inclusive = 1; end_inclusive = 1 }))) ⊎ ((action_of a ≡ Help) ⊎ IsFlag a))

  -- a row with a first value, whose values passed
  abbrev pub Passed : Row → Type 0
  Passed r = (values_kinds false (parser_at r.id) r.values ≡ []) × (r.reading ≡ reading_of (parser_at r.id)) × (is_some (slice_get r.values 0) ≡ true)

  abbrev pub AllPassed : List Row → Type 0
  AllPassed rows = AllByRecursion Passed rows

  added : (id : Text) (how : Reading) (s : ValueSource) (values : List Text) (rows : List Row) → AllPassed rows → values_kinds false (parser_at id) values ≡ []
      → how ≡ reading_of (parser_at id) → is_some (slice_get values 0) ≡ true → AllPassed (with_values id how s values rows)
  added id how s values rows all pass is some = at_row_all Passed id (more_values s values) _ rows all step ((pass, is, some), tt)
    where
      step : (r : Row) → bytes_eq r.id id ≡ true → Passed r → AllPassed (more_values s values r)
      step r e p =
          let same = (bytes_eq-Decides r.id id).0 e in
          let here = subst (λ t. values_kinds false (parser_at t) values ≡ []) (sym same) pass in
          ((more_kinds (parser_at r.id) r.values values p.0 here, p.1, more_first r.values values p.2), tt)

  passes : (a : Rule) (values : List Text) → Expected a → values_fault a values ≡ [] → values_kinds false (parser_at a.id) values ≡ []
  passes a values ex none =
      subst (λ i. values_kinds i (parser_at a.id) values ≡ []) ex.0 (subst (λ p. values_kinds a.ignore_case p values ≡ []) ex.1 none)

  -- a use with values that passed, in place of what was there
  replaced : (again : Bool) (a : Rule) (values : List Text) (rows : List Row) → Expected a → set_fault again a values rows ≡ []
      → is_some (slice_get values 0) ≡ true → AllPassed rows → AllPassed (with_values a.id (reading_by a) CommandLine values (without a.id rows))
  replaced again a values rows ex none some all =
      let others = at_row_all Passed a.id (λ _. []) [] rows all (λ r e p. tt) tt in
      added a.id (reading_by a) CommandLine values (without a.id rows) others (passes a values ex (split _ _ none).1) (ap reading_of ex.1) some

  pub used_all : (again : Bool) (a : Rule) (values : List Text) (rows : List Row) → Expected a → use_fault again a values rows ≡ [] → AllPassed rows
      → AllPassed (used a values rows)
  used_all again a values rows ex none all = elim ex.2 [
    | inl set ↦
        let parts = split _ _ none in
        let range : range_kinds 1 1 (length values) ≡ [] =
        subst (λ r. range_kinds (unwrap_or_range r).start_inclusive (unwrap_or_range r).end_inclusive (length values) ≡ []) set.1 parts.0 in
        let one = one_value a values range in
        let fault : set_fault again a (values_or_missing a values) rows ≡ [] =
        subst (λ x. action_fault x again a (values_or_missing a values) rows ≡ []) set.0 parts.1 in
        let more = replaced again a values rows ex (subst (λ vs. set_fault again a vs rows ≡ []) one.1 fault) one.0 all in
        subst (λ x. AllPassed (used_as x a.id (reading_by a) (values_or_missing a values) rows)) (sym set.0)
        (subst (λ vs. AllPassed (with_values a.id (reading_by a) CommandLine vs (without a.id rows))) (sym one.1) more)
    | inr other ↦ elim other [
      | inl help ↦ subst (λ x. AllPassed (used_as x a.id (reading_by a) (values_or_missing a values) rows)) (sym help) all
      | inr flag ↦
          let parts = split _ _ none in
          let range : range_kinds 0 0 (length values) ≡ [] =
          subst (λ r. range_kinds (unwrap_or_range r).start_inclusive (unwrap_or_range r).end_inclusive (length values) ≡ []) flag.1 parts.0 in
          let given : values_or_missing a values ≡ a.missing = ap (values_or_missing a) (no_value values range) in
          let fault : set_fault again a (values_or_missing a values) rows ≡ [] =
          subst (λ x. action_fault x again a (values_or_missing a values) rows ≡ []) flag.0 parts.1 in
          let more = replaced again a a.missing rows ex (subst (λ vs. set_fault again a vs rows ≡ []) given fault) flag.2 all in
          subst (λ x. AllPassed (used_as x a.id (reading_by a) (values_or_missing a values) rows)) (sym flag.0)
          (subst (λ vs. AllPassed (with_values a.id (reading_by a) CommandLine vs (without a.id rows))) (sym given) more)
    ]
  ]

  pub default_all : (a : Rule) (rows : List Row) → Expected a → default_fault rows a ≡ [] → AllPassed rows → AllPassed (with_default rows a)
  default_all a rows ex none all = go (has_row a.id rows) none
    where
      inner : (ds : List Text) → cond (is_empty ds) [] (given_default_fault a ds) ≡ [] → AllPassed (default_rows a.id (reading_by a) ds rows)
      inner [] e = all
      inner (v ∷ vs) e =
          let some : is_empty (v ∷ vs) ≡ false = ne_eqb (length (v ∷ vs)) 0 (λ none. omega (arith, none)) in
          let fault : given_default_fault a (v ∷ vs) ≡ [] = subst (λ b. cond b [] (given_default_fault a (v ∷ vs)) ≡ []) some e in
          let s = split (request_kinds (action_of a)) (values_fault a (v ∷ vs)) fault in
          added a.id (reading_by a) DefaultValue (v ∷ vs) rows all (passes a (v ∷ vs) ex s.1) (ap reading_of ex.1) refl

      go : (b : Bool) → cond (b || is_empty a.defaults) [] (given_default_fault a a.defaults) ≡ []
          → AllPassed (cond b rows (default_rows a.id (reading_by a) a.defaults rows))
      go true e = all
      go false e = inner a.defaults e

  pub find_expected : (test : Rule → Bool) (c : List Rule) → AllByRecursion Expected c → IfSome (find test c) Expected
  find_expected test [] all = tt
  find_expected test (x ∷ xs) all = go (test x) (find_expected test xs all.1)
    where
      go : (b : Bool) → IfSome (find test xs) Expected → IfSome (cond b (Some x) (find test xs)) Expected
      go true rest = all.0
      go false rest = rest
