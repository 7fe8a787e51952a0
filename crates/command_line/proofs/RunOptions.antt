-- If clap finds no fault in the words of a command with the options of a run, these are in range.
use Rattle.std.proofs.Common.{◌≡◌, ◌^◌, true, false, List, [], ◌∷◌, ◌++◌, Some, inl, inr, ap, cond, codes, fold, arith, option_map, refl, sym, subst}
use Rattle.std.specs.List.{AllByRecursion}
use Rattle.std.specs.Str.{bytes_eq}
use Rattle.clap.specs.Faults.{level_fault}
use Rattle.clap.specs.Simple.{Shape, filled, filled_from, help_rule}
use Rattle.clap.specs.Walk.{Row, Rule, Text, has_row, nothing_held, rows_after, settled, walk, with_default}
use Rattle.clap.specs.declared.builder.value_parser.ValueParser.{ValueParser}
use Rattle.clap.specs.declared.builder.value_parser.ValueParser.TheVariants as vp
use Rattle.graph_limits.specs.declared.limits.TheConstants.{MAX_NODES}
use Rattle.run_options.specs.Ranges.{AreInRange}
use Rattle.run_options.specs.declared.Options.{Options}
use Rattle.run_options.specs.declared.TheConstants.{MAX_CAPACITY, MAX_EDITION, MAX_TURNS, MAX_WORKERS}
use Rattle.run_options.specs.declared.Edition.{Edition}
use Rattle.command_line.specs.declared.command_options.CommandOption.TheVariants as option
use Rattle.command_line.specs.declared.programs.TheConstants.{MAX_PASSES}
use Rattle.command_line.specs.Line.{command_of, run_options}
use Rattle.command_line.specs.RunOptions.{capacity_rule, edition_of, edition_rule, edition_with, options_of, turns_rule, workers_rule}
use Rattle.command_line.proofs.Defaults.{default_comes, default_keeps, number_found}
use Rattle.command_line.proofs.Passing.{AllPassed, Expected}
use Rattle.command_line.proofs.Walked.{level_all}

-- the parser of each option
abbrev pub parser_at : Text → ValueParser
parser_at id =
    cond (bytes_eq id (codes "workers")) (vp.Unsigned 1 MAX_WORKERS)
    (cond (bytes_eq id (codes "capacity")) (vp.Unsigned 1 MAX_CAPACITY)
    (cond (bytes_eq id (codes "turns")) (vp.Unsigned 0 MAX_TURNS)
    (cond (bytes_eq id (codes "edition")) (vp.Unsigned 1 MAX_EDITION)
    (cond (bytes_eq id (codes "root")) (vp.Unsigned 1 MAX_NODES)
    (cond (bytes_eq id (codes "passes")) (vp.Unsigned 1 MAX_PASSES)
    (cond (bytes_eq id (codes "transcript")) vp.Bool vp.String))))))

-- the rules of a command with the options of a run, once it is built; and those of a transcript
abbrev pub run_rules : List Rule
run_rules = filled_from 1 ((command_of (codes "plan") run_options).top.rules ++ help_rule ∷ [])

abbrev pub transcript_rules : List Rule
transcript_rules = filled_from 1 ((command_of (codes "transcript") (run_options ++ option.Edition ∷ [])).top.rules ++ help_rule ∷ [])

run_expected : AllByRecursion (Expected parser_at) run_rules
run_expected = ((refl, refl, inl (refl, refl)), ((refl, refl, inl (refl, refl)), ((refl, refl, inl (refl, refl)), ((refl, refl, inr (inl refl)), tt))))

transcript_expected : AllByRecursion (Expected parser_at) transcript_rules
transcript_expected = (
  (refl, refl, inl (refl, refl)),
  ((refl, refl, inl (refl, refl)), ((refl, refl, inl (refl, refl)), ((refl, refl, inl (refl, refl)), ((refl, refl, inr (inl refl)), tt)))),
)

-- ---- from rows that have the options
module _ (rows : List Row) (all : AllPassed parser_at rows) where
  abbrev pub HasOptions : Type 0
  HasOptions = (o : Options) × (options_of rows ≡ Some o) × AreInRange o

  pub with_options : has_row (codes "workers") rows ≡ true → has_row (codes "capacity") rows ≡ true → has_row (codes "turns") rows ≡ true
      → HasOptions
  with_options has_workers has_capacity has_turns =
      let workers = number_found parser_at rows (codes "workers") 1 MAX_WORKERS (2 ^ 32) has_workers all refl (omega arith) in
      let capacity = number_found parser_at rows (codes "capacity") 1 MAX_CAPACITY (2 ^ 32) has_capacity all refl (omega arith) in
      let turns = number_found parser_at rows (codes "turns") 0 MAX_TURNS (2 ^ 64) has_turns all refl (omega arith) in (
        record { workers = workers.0; capacity = capacity.0; turns = turns.0; transcript = false },
        rw (workers.1, capacity.1, turns.1) refl,
        record { some_worker = workers.2; workers = workers.3; some_capacity = capacity.2; capacity = capacity.3 },
      )

  with_edition_row : has_row (codes "edition") rows ≡ true → (e : Edition) × (edition_of rows ≡ Some e)
  with_edition_row has =
      let number = number_found parser_at rows (codes "edition") 1 MAX_EDITION (2 ^ 32) has all refl (omega arith) in
      (edition_with number.0, ap (option_map edition_with) number.1)

-- ---- the rows that come by default
module _ (before : List Row) where
  abbrev pub one : List Row
  one = with_default before (filled workers_rule)

  abbrev pub two : List Row
  two = with_default one (filled capacity_rule)

  abbrev pub three : List Row
  three = with_default two (filled turns_rule)

  pub has_workers : has_row (codes "workers") three ≡ true
  has_workers = default_keeps (filled turns_rule) (codes "workers") two
      (default_keeps (filled capacity_rule) (codes "workers") one (default_comes (filled workers_rule) before refl))

  pub has_capacity : has_row (codes "capacity") three ≡ true
  has_capacity = default_keeps (filled turns_rule) (codes "capacity") two (default_comes (filled capacity_rule) one refl)

  pub has_turns : has_row (codes "turns") three ≡ true
  has_turns = default_comes (filled turns_rule) two refl

  -- what was there stays
  pub keep : (k : Text) → has_row k before ≡ true → has_row k three ≡ true
  keep k h = default_keeps (filled turns_rule) k two (default_keeps (filled capacity_rule) k one (default_keeps (filled workers_rule) k before h))

  -- with the edition
  abbrev four : List Row
  four = with_default three (filled edition_rule)

  kept : (k : Text) → has_row k three ≡ true → has_row k four ≡ true
  kept k h = default_keeps (filled edition_rule) k three h

pub run_found : (s : Shape) (words : List Text) → s.rules ≡ run_rules → level_fault s [] nothing_held words false [] ≡ []
    → (o : Options) × (options_of (rows_after s.rules [] words) ≡ Some o) × AreInRange o
run_found s words is none =
    let rows = rows_after s.rules [] words in
    let before = (settled s.rules (walk s.rules [] nothing_held words).held).rows in
    let all : AllPassed parser_at rows = level_all parser_at s (subst (AllByRecursion (Expected parser_at)) (sym is) run_expected) words none in
    let last : (k : Text) → has_row k (three before) ≡ true → has_row k rows ≡ true =
    λ k h. subst (λ rules. has_row k (fold with_default before rules) ≡ true) (sym is) (default_keeps (filled help_rule) k (three before) h) in
    with_options rows all (last (codes "workers") (has_workers before)) (last (codes "capacity") (has_capacity before))
    (last (codes "turns") (has_turns before))

pub transcript_found : (s : Shape) (words : List Text) → s.rules ≡ transcript_rules → level_fault s [] nothing_held words false [] ≡ []
    → ((o : Options) × (options_of (rows_after s.rules [] words) ≡ Some o) × AreInRange o)
    × ((e : Edition) × (edition_of (rows_after s.rules [] words) ≡ Some e))
transcript_found s words is none =
    let rows = rows_after s.rules [] words in
    let before = (settled s.rules (walk s.rules [] nothing_held words).held).rows in
    let all : AllPassed parser_at rows = level_all parser_at s (subst (AllByRecursion (Expected parser_at)) (sym is) transcript_expected) words none in
    let last : (k : Text) → has_row k (four before) ≡ true → has_row k rows ≡ true =
    λ k h. subst (λ rules. has_row k (fold with_default before rules) ≡ true) (sym is) (default_keeps (filled help_rule) k (four before) h) in
    let keeps = kept before in (
      with_options rows all (last (codes "workers") (keeps (codes "workers") (has_workers before)))
          (last (codes "capacity") (keeps (codes "capacity") (has_capacity before))) (last (codes "turns") (keeps (codes "turns") (has_turns before))),
      with_edition_row rows all (last (codes "edition") (default_comes (filled edition_rule) (three before) refl)),
    )
