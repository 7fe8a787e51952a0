-- If clap finds no fault in the words of a command for lessons, its program has a word, and the options of a run are in range.
use Rattle.std.proofs.Common.{◌≡◌, ◌∙◌, true, false, List, [], ◌∷◌, ◌++◌, Option, Some, None, inl, inr, ap, codes, fold, is_some, refl, sym, subst}
use Rattle.std.specs.List.{AllByRecursion}
use Rattle.std.specs.Prelude.{option_and_then, slice_get}
use Rattle.clap.specs.Faults.{level_fault}
use Rattle.clap.specs.Simple.{Shape, filled, filled_from, help_rule}
use Rattle.clap.specs.Walk.{Row, Rule, Text, first_of, has_row, nothing_held, rows_after, settled, walk, with_default}
use Rattle.run_options.specs.Ranges.{AreInRange}
use Rattle.run_options.specs.declared.Options.{Options}
use Rattle.command_line.specs.declared.command_options.CommandOption.TheVariants.{Transcript}
use Rattle.command_line.specs.Line.{command_of, program_options, run_options}
use Rattle.command_line.specs.NodePrograms.{passes_rule, program_rule, root_rule, transcript_rule}
use Rattle.command_line.specs.RunOptions.{options_of}
use Rattle.command_line.proofs.Defaults.{default_comes, default_keeps, row_found}
use Rattle.command_line.proofs.Passing.{AllPassed, Expected}
use Rattle.command_line.proofs.RunOptions.{has_capacity, has_turns, has_workers, keep, parser_at, three, with_options}
use Rattle.command_line.proofs.Walked.{level_all}

-- the rules of a command that plays a program, once it is built; and those of the two that run it
abbrev pub play_rules : List Rule
play_rules = filled_from 1 ((command_of (codes "events") program_options).top.rules ++ help_rule ∷ [])

abbrev pub run_rules : List Rule
run_rules = filled_from 1 ((command_of (codes "run") (program_options ++ run_options ++ Transcript ∷ [])).top.rules ++ help_rule ∷ [])

abbrev pub alone_rules : List Rule
alone_rules = filled_from 1 ((command_of (codes "alone") (program_options ++ Transcript ∷ [])).top.rules ++ help_rule ∷ [])

play_expected : AllByRecursion (Expected parser_at) play_rules
play_expected = ((refl, refl, inl (refl, refl)), ((refl, refl, inl (refl, refl)), ((refl, refl, inl (refl, refl)), ((refl, refl, inr (inl refl)), tt))))

run_expected : AllByRecursion (Expected parser_at) run_rules
run_expected = (
  (refl, refl, inl (refl, refl)),
  (
    (refl, refl, inl (refl, refl)),
    (
      (refl, refl, inl (refl, refl)),
      (
        (refl, refl, inl (refl, refl)),
        (
          (refl, refl, inl (refl, refl)),
          ((refl, refl, inl (refl, refl)), ((refl, refl, inr (inr (refl, refl, refl))), ((refl, refl, inr (inl refl)), tt))),
        ),
      ),
    ),
  ),
)

alone_expected : AllByRecursion (Expected parser_at) alone_rules
alone_expected = (
  (refl, refl, inl (refl, refl)),
  (
    (refl, refl, inl (refl, refl)),
    ((refl, refl, inl (refl, refl)), ((refl, refl, inr (inr (refl, refl, refl))), ((refl, refl, inr (inl refl)), tt))),
  ),
)

some : (o : Option Text) → is_some o ≡ true → (t : Text) × (o ≡ Some t)
some None e = cc
some (Some t) e = (t, refl)

-- an option with a row has a word
abbrev pub HasWord : List Row → Type 0
HasWord rows = (word : Text) × (first_of (codes "program") rows ≡ Some word)

word_in : (rows : List Row) → AllPassed parser_at rows → has_row (codes "program") rows ≡ true → HasWord rows
word_in rows all has =
    let found = row_found parser_at (codes "program") rows has all in
    let word = some (slice_get found.0.values 0) found.3.2 in
    (word.0, ap (option_and_then (λ (r : Row). slice_get r.values 0)) found.1 ∙ word.1)

pub play_found : (s : Shape) (words : List Text) → s.rules ≡ play_rules → level_fault s [] nothing_held words false [] ≡ []
    → HasWord (rows_after s.rules [] words)
play_found s words is none =
    let rows = rows_after s.rules [] words in
    let before = (settled s.rules (walk s.rules [] nothing_held words).held).rows in
    let all : AllPassed parser_at rows = level_all parser_at s (subst (AllByRecursion (Expected parser_at)) (sym is) play_expected) words none in
    let one = with_default before (filled program_rule) in
    let two = with_default one (filled root_rule) in
    let passed = with_default two (filled passes_rule) in
    let has : has_row (codes "program") rows ≡ true = subst (λ rules. has_row (codes "program") (fold with_default before rules) ≡ true) (sym is)
    (default_keeps (filled help_rule) (codes "program") passed
    (default_keeps (filled passes_rule) (codes "program") two
    (default_keeps (filled root_rule) (codes "program") one (default_comes (filled program_rule) before refl)))) in
    word_in rows all has

pub alone_found : (s : Shape) (words : List Text) → s.rules ≡ alone_rules → level_fault s [] nothing_held words false [] ≡ []
    → HasWord (rows_after s.rules [] words)
alone_found s words is none =
    let rows = rows_after s.rules [] words in
    let before = (settled s.rules (walk s.rules [] nothing_held words).held).rows in
    let all : AllPassed parser_at rows = level_all parser_at s (subst (AllByRecursion (Expected parser_at)) (sym is) alone_expected) words none in
    let one = with_default before (filled program_rule) in
    let two = with_default one (filled root_rule) in
    let passed = with_default two (filled passes_rule) in
    let shown = with_default passed (filled transcript_rule) in
    let has : has_row (codes "program") rows ≡ true = subst (λ rules. has_row (codes "program") (fold with_default before rules) ≡ true) (sym is)
    (default_keeps (filled help_rule) (codes "program") shown
    (default_keeps (filled transcript_rule) (codes "program") passed
    (default_keeps (filled passes_rule) (codes "program") two
    (default_keeps (filled root_rule) (codes "program") one (default_comes (filled program_rule) before refl))))) in
    word_in rows all has

-- a run has its options besides
pub run_found : (s : Shape) (words : List Text) → s.rules ≡ run_rules → level_fault s [] nothing_held words false [] ≡ []
    → HasWord (rows_after s.rules [] words)
    × ((o : Options) × (options_of (rows_after s.rules [] words) ≡ Some o) × AreInRange o)
run_found s words is none =
    let rows = rows_after s.rules [] words in
    let before = (settled s.rules (walk s.rules [] nothing_held words).held).rows in
    let all : AllPassed parser_at rows = level_all parser_at s (subst (AllByRecursion (Expected parser_at)) (sym is) run_expected) words none in
    let one = with_default before (filled program_rule) in
    let two = with_default one (filled root_rule) in
    let passed = with_default two (filled passes_rule) in
    let four = three passed in
    let last : (k : Text) → has_row k four ≡ true → has_row k rows ≡ true =
    λ k h. subst (λ rules. has_row k (fold with_default before rules) ≡ true) (sym is)
    (default_keeps (filled help_rule) k (with_default four (filled transcript_rule)) (default_keeps (filled transcript_rule) k four h)) in
    let program : has_row (codes "program") four ≡ true = keep passed (codes "program")
    (default_keeps (filled passes_rule) (codes "program") two
    (default_keeps (filled root_rule) (codes "program") one (default_comes (filled program_rule) before refl))) in (
      word_in rows all (last (codes "program") program),
      with_options rows all (last (codes "workers") (has_workers passed)) (last (codes "capacity") (has_capacity passed))
          (last (codes "turns") (has_turns passed)),
    )
