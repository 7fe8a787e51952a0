-- If clap finds no fault in the words of a command, its rows passed: the walk over the words adds only values that passed, and so do the defaults.
use Rattle.std.proofs.Common.{◌≡◌, ◌&&◌, ◌∷◌, ℕ, Bool, true, false, List, [], Option, Some, None, is_some, cond}
use Rattle.std.specs.List.{AllByRecursion, fold}
use Rattle.std.specs.Option.{option_map_or}
use Rattle.std.specs.Str.{bytes_eq}
use Rattle.clap.specs.Kinds.{or_else}
use Rattle.clap.specs.Lexer.{long_of}
use Rattle.clap.specs.Simple.{Shape}
use Rattle.clap.specs.Walk.{Held, Names, Row, Rule, Step, Text, Waiting, Walk, after_step, arg_by_index, is_pending, long_or_other, next, nothing_held}
use Rattle.clap.specs.Walk.{positional_held, pushed, rows_after, settled, subcommand, subcommand_met, subcommand_or_other, takes_several, to_positional}
use Rattle.clap.specs.Walk.{trailing, value, walk, walk_from, walked, walked_from, with_default, word_met}
use Rattle.clap.specs.Faults.{defaults_fault, flag_word_fault, level_fault, other_fault, positional_fault, settle_fault, step_fault, stray_fault, turn_fault}
use Rattle.clap.specs.Faults.{walk_fault, word_fault}
use Rattle.clap.specs.declared.builder.value_parser.ValueParser.{ValueParser}
use Rattle.command_line.proofs.Passing.{AllPassed, Expected, default_all, split}
use Rattle.command_line.proofs.Used.{long_or_other_all, settled_all}

-- a command without subcommands, once it is built
module _ (parser_at : Text → ValueParser) (s : Shape) (expected : AllByRecursion (Expected parser_at) s.rules) where
  abbrev Good : Held → Type 0
  Good h = AllPassed parser_at h.rows

  word_all : (names : Names) (is_trailing : Bool) (waiting : Waiting) (position : ℕ) (word : Text) (h : Held)
      → word_fault s names is_trailing waiting word h ≡ [] → Good h → Good (word_met s.rules names is_trailing waiting position word h).0
  word_all names true waiting position word h none all = all
  word_all names false waiting position word h none all = go (subcommand_met names waiting word) none
    where
      inner : (b : Bool) → cond b [] (flag_word_fault s.rules s.args_override_self (long_of word) word h) ≡ []
          → Good (cond b (h, trailing position) (long_or_other s.rules waiting word (long_of word) h)).0
      inner true e = all
      inner false e = long_or_other_all parser_at s.rules expected s.args_override_self waiting word (long_of word) h e all

      go : (o : Option Text) → other_fault s o word h ≡ [] → Good (subcommand_or_other s.rules o waiting position word h).0
      go None e = inner (bytes_eq word (45 ∷ 45 ∷ [])) e
      go (Some name) e = all

  positional_all : (a : Rule) (word : Text) (h : Held) → positional_fault s.rules s.args_override_self a h ≡ [] → Good h
      → Good (positional_held s.rules a word h)
  positional_all a word h none all = go (is_pending a h.pending && takes_several a) none
    where
      go : (b : Bool) → cond b [] (settle_fault s.rules s.args_override_self h) ≡ [] → Good (pushed a.id word (cond b h (settled s.rules h)))
      go true e = all
      go false e = settled_all parser_at s.rules expected s.args_override_self h e all

  step_all : (word : Text) (w : Walk) (h : Held) (step : Step) → step_fault s w.position h step ≡ [] → Good h → Good (after_step s.rules word w h step).held
  step_all word w h (next waiting) none all = all
  step_all word w h (trailing position) none all = all
  step_all word w h (subcommand name) none all = all
  step_all word w h value none all = go (arg_by_index s.rules w.position) none
    where
      go : (o : Option Rule) → option_map_or (λ a. positional_fault s.rules s.args_override_self a h) o (stray_fault s) ≡ []
          → Good (to_positional s.rules o word w h).held
      go None e = all
      go (Some a) e = positional_all a word h e all

  walked_all : (names : Names) (w : Walk) (word : Text) → turn_fault s names w word ≡ [] → Good w.held → Good (walked s.rules names w word).held
  unfolding walked
  walked_all names w word none all = go w.stopped none
    where
      met : Held × Step
      met = word_met s.rules names w.is_trailing w.waiting w.position word w.held

      go : (o : Option (Text × List Text))
          → cond (is_some o) [] (or_else (word_fault s names w.is_trailing w.waiting word w.held) (step_fault s w.position met.0 met.1)) ≡ []
          → Good (walked_from s.rules names o w word).held
      go (Some p) e = all
      go None e =
          let parts = split _ _ e in
          step_all word w met.0 met.1 parts.1 (word_all names w.is_trailing w.waiting w.position word w.held parts.0 all)

  walk_all : (names : Names) (w : Walk) (words : List Text) → walk_fault s names w words ≡ [] → Good w.held → Good (fold (walked s.rules names) w words).held
  unfolding walk_fault
  walk_all names w [] none all = all
  walk_all names w (word ∷ rest) none all =
      let parts = split _ _ none in
      walk_all names (walked s.rules names w word) rest parts.1 (walked_all names w word parts.0 all)

defaults_all : (parser_at : Text → ValueParser) (xs : List Rule) → AllByRecursion (Expected parser_at) xs → (rows : List Row) → defaults_fault rows xs ≡ []
    → AllPassed parser_at rows → AllPassed parser_at (fold with_default rows xs)
unfolding defaults_fault
defaults_all parser_at [] ex rows none all = all
defaults_all parser_at (a ∷ rest) ex rows none all =
    let parts = split _ _ none in
    defaults_all parser_at rest ex.1 (with_default rows a) parts.1 (default_all parser_at a rows ex.0 parts.0 all)

-- the rows that a command without subcommands has in the end
pub level_all : (parser_at : Text → ValueParser) (s : Shape) → AllByRecursion (Expected parser_at) s.rules → (words : List Text)
    → level_fault s [] nothing_held words false [] ≡ [] → AllPassed parser_at (rows_after s.rules [] words)
level_all parser_at s ex words none =
    let end = (walk s.rules [] nothing_held words).held in
    let one = split _ _ none in
    let two = split _ _ one.1 in
    let three = split _ _ two.1 in
    let walked_good = walk_all parser_at s ex [] (walk_from nothing_held) words one.0 tt in
    let settled_good = settled_all parser_at s.rules ex s.args_override_self end two.0 walked_good in
    defaults_all parser_at s.rules ex (settled s.rules end).rows three.0 settled_good
