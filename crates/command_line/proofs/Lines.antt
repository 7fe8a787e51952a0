-- The command lines compute; and what is true of each command of a line is true of the one that its words enter.
use Rattle.std.proofs.Common.{◌≡◌, ◌∙◌, Bool, List, Option, Some, None, [], ◌∷◌, ap, cond, false, find, is_some, option_map, refl, sym, true}
use Rattle.std.specs.List.{AllByRecursion}
use Rattle.std.specs.Option.{option_map_or}
use Rattle.clap.specs.Walk.{Row, Text, answers_to, nothing_held, stop_after, walk_from}
use Rattle.clap.specs.Simple.{Shape, argument_words, built, entered, is_simple, label_of, names_of, rows_at}
use Rattle.clap.specs.Faults.{entered_fault, is_simple_and_free, level_fault, walk_fault}
use Rattle.clap.proofs.OnLiterals.{clap_on_literals}
use Rattle.command_line.specs.Asked.{HasEntered}
use Rattle.command_line.specs.Line.{line}
use Rattle.command_line.specs.declared.executable.Executable.{Executable}
use Rattle.command_line.specs.declared.executable.Executable.TheVariants.{Forestplan, Forestplay}
use Rattle.command_line.proofs.Passing.{split}

pub line_is_free : (executable : Executable) → is_simple_and_free (line executable) ≡ true
unfolding clap_on_literals
line_is_free Forestplan = refl
line_is_free Forestplay = refl

pub line_is_simple : (executable : Executable) → is_simple (line executable) ≡ true
unfolding clap_on_literals
line_is_simple Forestplan = refl
line_is_simple Forestplay = refl

pub line_wants_a_command : (executable : Executable) → (line executable).top.subcommand_required ≡ true
line_wants_a_command Forestplan = refl
line_wants_a_command Forestplay = refl

module _ (Is : Text × List Row → Type 0) where
  -- it is true of a command whose words have no fault
  abbrev pub Holds : Shape → Type 0
  Holds s = (words : List Text) → level_fault s [] nothing_held words false [] ≡ [] → Is (rows_at s words)

  abbrev pub IsOne : Option (Text × List Row) → Type 0
  IsOne found = (command : Text × List Row) × (found ≡ Some command) × Is command

  found : (test : Shape → Bool) (ws : List Text) (xs : List Shape) → AllByRecursion Holds xs
      → option_map_or (λ s. level_fault s [] nothing_held ws false []) (find test xs) [] ≡ []
      → is_some (option_map (λ s. rows_at s ws) (find test xs)) ≡ true → IsOne (option_map (λ s. rows_at s ws) (find test xs))
  found test ws [] all none h = cc
  found test ws (x ∷ xs) all none h = go (test x) none h (found test ws xs all.1)
    where
      go : (b : Bool) → option_map_or (λ s. level_fault s [] nothing_held ws false []) (cond b (Some x) (find test xs)) [] ≡ []
          → is_some (option_map (λ s. rows_at s ws) (cond b (Some x) (find test xs))) ≡ true
          → (option_map_or (λ s. level_fault s [] nothing_held ws false []) (find test xs) [] ≡ []
          → is_some (option_map (λ s. rows_at s ws) (find test xs)) ≡ true → IsOne (option_map (λ s. rows_at s ws) (find test xs)))
          → IsOne (option_map (λ s. rows_at s ws) (cond b (Some x) (find test xs)))
      go true none h rest = (rows_at x ws, refl, all.0 ws none)
      go false none h rest = rest none h

  entered_one : (executable : Executable) → AllByRecursion Holds (built (line executable)).subs → (stop : Option (Text × List Text))
      → entered_fault (built (line executable)) stop ≡ [] → is_some (entered (built (line executable)) stop) ≡ true
      → IsOne (entered (built (line executable)) stop)
  entered_one executable all None none h = cc
  entered_one executable all (Some p) none h = found (λ x. answers_to p.0 (label_of x)) p.1 (built (line executable)).subs all none h

  pub one : (executable : Executable) → AllByRecursion Holds (built (line executable)).subs → (words : List Text) (has : Option (Text × List Row))
      → HasEntered executable words has → IsOne has
  one executable all words has e =
      let whole = built (line executable) in
      let stop = stop_after whole.top.rules (names_of whole) (argument_words (line executable) words) in
      let after_words = split (walk_fault whole.top (names_of whole) (walk_from nothing_held) (argument_words (line executable) words)) _ e.faultless in
      let is = entered_one executable all stop (split (entered_fault whole stop) _ after_words.1).0 (ap is_some (sym e.command) ∙ e.one) in
      (is.0, e.command ∙ is.1, is.2)
