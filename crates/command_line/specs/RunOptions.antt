-- The options of a run of workers in clap's own words, and what they read from the rows of a command.
use Rattle.std.specs.Prelude.{◌&&◌, ◌==◌, ◌^◌, ◌∷◌, [], ℕ, false, List, Option, Some, None, if◌then◌else◌, nat_lt}
use Rattle.std.specs.Prelude.{codes, option_and_then, option_map}
use Rattle.std.specs.Str.Parse.{digits_value, without_leading_plus}
use Rattle.clap.specs.Words.{Row, Rule, Text, new_rule, one_of}
use Rattle.clap.specs.ValueTests.{is_numeral}
use Rattle.clap.specs.declared.builder.value_parser.ValueParser.TheVariants.{Unsigned}
use Rattle.run_options.specs.declared.TheConstants.{MAX_CAPACITY, MAX_EDITION, MAX_TURNS, MAX_WORKERS}
use Rattle.run_options.specs.declared.Edition.{Edition}
use Rattle.run_options.specs.declared.Edition.TheVariants.{One, Two}
use Rattle.run_options.specs.declared.Options.{Options}

-- an option with a number from `least` to `most`, and a default
abbrev pub number_rule : Text → ℕ → ℕ → Text → Rule
number_rule name least most default = record (new_rule name) {
  long = Some name;
  value_names = 1;
  defaults = default ∷ [];
  parser = Some (Unsigned least most);
}

-- the options of a run
abbrev pub workers_rule : Rule
workers_rule = number_rule (codes "workers") 1 MAX_WORKERS (codes "4")

abbrev pub capacity_rule : Rule
capacity_rule = number_rule (codes "capacity") 1 MAX_CAPACITY (codes "4")

abbrev pub turns_rule : Rule
turns_rule = number_rule (codes "turns") 0 MAX_TURNS (codes "1000000000")

-- the option of a transcript
abbrev pub edition_rule : Rule
edition_rule = number_rule (codes "edition") 1 MAX_EDITION (codes "2")

-- the number below a bound that a text is; a plus may stand before it
abbrev pub number_below : ℕ → Text → Option ℕ
number_below bound text =
    let digits = without_leading_plus text in
    if is_numeral digits && nat_lt (digits_value 10 digits) bound then Some (digits_value 10 digits) else None

-- the number below a bound that an option of a command has, from the words or by default
abbrev pub number_of : ℕ → Text → List Row → Option ℕ
number_of bound name rows = option_and_then (number_below bound) (one_of name rows)

-- what a run has, if its workers, its capacity and its turns are numbers; no option asks for a transcript
abbrev pub options_of : List Row → Option Options
options_of rows =
    option_and_then (λ workers. option_and_then (λ capacity. option_and_then (λ turns.
    Some (record { workers = workers; capacity = capacity; turns = turns; transcript = false }))
    (number_of (2 ^ 64) (codes "turns") rows))
    (number_of (2 ^ 32) (codes "capacity") rows))
    (number_of (2 ^ 32) (codes "workers") rows)

-- the edition of a number
abbrev pub edition_with : ℕ → Edition
edition_with number = if number == 1 then One else Two

-- the edition that a transcript has, if it is a number
abbrev pub edition_of : List Row → Option Edition
edition_of rows = option_map edition_with (number_of (2 ^ 32) (codes "edition") rows)
