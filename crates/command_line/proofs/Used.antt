-- What one use of an option adds to the rows passed, if clap finds no fault in it: by a long word, by a bundle of short ones, or as a word of its own.
use Rattle.std.proofs.Common.{◌≡◌, ◌∷◌, ℕ, Bool, zero, suc, true, false, List, [], Option, Some, None, is_some, cond, drop, length}
use Rattle.std.specs.Prelude.{IfSome, encode_utf8, slice_get}
use Rattle.std.specs.List.{AllByRecursion}
use Rattle.std.specs.Option.{option_map_or}
use Rattle.std.specs.Str.{chars}
use Rattle.clap.specs.Kinds.{Kinds, or_else}
use Rattle.clap.specs.Lexer.{short_of}
use Rattle.clap.specs.Walk.{Held, Outcome, Rule, Text, Waiting, after_flag, arg_by_id, arg_by_long, arg_by_short, attached_value, bundle_met, bundle_step, done}
use Rattle.clap.specs.Walk.{flag_met, idle, long_met, long_or_other, option, option_met, option_word, plain, plain_word, positional, reacted, refused, settled}
use Rattle.clap.specs.Walk.{settled_rows, short_met, short_or_plain, takes_values, used_by_id, waits}
use Rattle.clap.specs.Faults.{bundle_fault, bundle_step_fault, flag_word_fault, flags_fault, long_fault, option_fault, react_fault, settle_fault, short_fault}
use Rattle.clap.specs.Faults.{use_fault}
use Rattle.clap.specs.declared.error.kind.ErrorKind.TheVariants.{TooManyValues}
use Rattle.clap.specs.declared.builder.value_parser.ValueParser.{ValueParser}
use Rattle.command_line.proofs.Passing.{AllPassed, Expected, find_expected, split, used_all}

module _ (parser_at : Text → ValueParser) (c : List Rule) (expected : AllByRecursion (Expected parser_at) c) (again : Bool) where
  abbrev Good : Held → Type 0
  Good h = AllPassed parser_at h.rows

  pub settled_all : (h : Held) → settle_fault c again h ≡ [] → Good h → Good (settled c h)
  settled_all h none all = go h.pending none
    where
      inner : (o : Option Rule) (values : List Text) → IfSome o (Expected parser_at) → option_map_or (λ a. use_fault again a values h.rows) o [] ≡ []
          → AllPassed parser_at (used_by_id o values h.rows)
      inner None values ex e = all
      inner (Some a) values ex e = used_all parser_at again a values h.rows ex e all

      go : (p : Option (Text × List Text)) → option_map_or (λ p. option_map_or (λ a. use_fault again a p.1 h.rows) (arg_by_id c p.0) []) p [] ≡ []
          → AllPassed parser_at (settled_rows c p h.rows)
      go None e = all
      go (Some p) e = inner (arg_by_id c p.0) p.1 (find_expected parser_at _ c expected) e

  reacted_all : (a : Rule) (values : List Text) (h : Held) → Expected parser_at a → react_fault c again a values h ≡ [] → Good h → Good (reacted c a values h)
  reacted_all a values h ex none all =
      let s = split _ _ none in
      used_all parser_at again a values (settled c h).rows ex s.1 (settled_all h s.0 all)

  option_all : (a : Rule) (v : Option Text) (h : Held) → Expected parser_at a → option_fault c again a v h ≡ [] → Good h → Good (option_met c a v h).0
  option_all a (Some v) h ex none all = reacted_all a (v ∷ []) h ex none all
  option_all a None h ex none all = settled_all h none all

  flag_all : (a : Rule) (v : Option Text) (h : Held) → Expected parser_at a → cond (is_some v) (TooManyValues ∷ []) (react_fault c again a [] h) ≡ [] → Good h
      → Good (flag_met c a v h).0
  flag_all a (Some v) h ex none all = all
  flag_all a None h ex none all = reacted_all a [] h ex none all

  long_all : (o : Option Rule) (v : Option Text) (h : Held) → IfSome o (Expected parser_at) → long_fault c again o v h ≡ [] → Good h → Good (long_met c o v h).0
  long_all None v h ex none all = all
  long_all (Some a) v h ex none all = go (takes_values a) none
    where
      go : (b : Bool) → cond b (option_fault c again a v h) (cond (is_some v) (TooManyValues ∷ []) (react_fault c again a [] h)) ≡ []
          → Good (cond b (option_met c a v h) (flag_met c a v h)).0
      go true e = option_all a v h ex e all
      go false e = flag_all a v h ex e all

  short_all : (o : Option Rule) (rest : Text) (h : Held) (then : Held → Held × Outcome) (fault : Held → Kinds)
      → ((x : Held) → fault x ≡ [] → Good x → Good (then x).0) → IfSome o (Expected parser_at) → short_fault c again o rest h fault ≡ [] → Good h
      → Good (short_met c o rest h then).0
  short_all None rest h then fault step ex none all = all
  short_all (Some a) rest h then fault step ex none all = go (takes_values a) none
    where
      go : (b : Bool) → cond b (option_fault c again a (attached_value rest) h) (or_else (react_fault c again a [] h) (fault (reacted c a [] h))) ≡ []
          → Good (cond b (option_met c a (attached_value rest) h) (then (reacted c a [] h))).0
      go true e = option_all a (attached_value rest) h ex e all
      go false e =
          let s = split _ _ e in
          step (reacted c a [] h) s.1 (reacted_all a [] h ex s.0 all)

  bundle_step_all : (flags : Text) (skip : ℕ) (so_far : Outcome) (h : Held) (then : Text → ℕ → Outcome → Held → Held × Outcome) (fault : Text → ℕ
      → Held → Kinds)
      → ((rest : Text) (less : ℕ) (o : Outcome) (x : Held) → fault rest less x ≡ [] → Good x → Good (then rest less o x).0)
      → (o : Option ℕ) → bundle_step_fault c again o flags skip h fault ≡ [] → Good h → Good (bundle_step c o flags skip so_far h then).0
  bundle_step_all flags skip so_far h then fault step None none all = all
  bundle_step_all flags zero so_far h then fault step (Some x) none all =
      let rest = drop (length (encode_utf8 x)) flags in
      short_all (arg_by_short c x) rest h (then rest 0 done) (fault rest 0) (step rest 0 done) (find_expected parser_at _ c expected) none all
  bundle_step_all flags (suc less) so_far h then fault step (Some x) none all = step (drop (length (encode_utf8 x)) flags) less so_far h none all

  bundle_all : (k : ℕ) (flags : Text) (skip : ℕ) (so_far : Outcome) (h : Held) → flags_fault c again k flags skip h ≡ [] → Good h
      → Good (bundle_met c k flags skip so_far h).0
  unfolding flags_fault bundle_met
  bundle_all zero flags skip so_far h none all = all
  bundle_all (suc k) flags skip so_far h none all =
      bundle_step_all flags skip so_far h (bundle_met c k) (flags_fault c again k) (bundle_all k) (slice_get (chars flags) 0) none all

  plain_all : (waiting : Waiting) (word : Text) (h : Held) → Good h → Good (plain_word c waiting word h).0
  plain_all idle word h all = all
  plain_all positional word h all = all
  plain_all (option id) word h all = go (arg_by_id c id)
    where
      go : (o : Option Rule) → Good (option_word o id word h).0
      go None = all
      go (Some a) = all

  after_flag_all : (waiting : Waiting) (word : Text) (h : Held) (o : Outcome) → Good h → Good (after_flag c waiting word h o).0
  after_flag_all waiting word h done all = all
  after_flag_all waiting word h (waits id) all = all
  after_flag_all waiting word h plain all = plain_all waiting word h all
  after_flag_all waiting word h refused all = plain_all waiting word h all

  pub long_or_other_all : (waiting : Waiting) (word : Text) (o : Option (Text × Option Text)) (h : Held) → flag_word_fault c again o word h ≡ [] → Good h
      → Good (long_or_other c waiting word o h).0
  long_or_other_all waiting word (Some p) h none all =
      after_flag_all waiting word _ _ (long_all (arg_by_long c p.0) p.1 h (find_expected parser_at _ c expected) none all)
  long_or_other_all waiting word None h none all = go (short_of word) none
    where
      go : (o : Option Text) → option_map_or (λ flags. bundle_fault c again flags h) o [] ≡ [] → Good (short_or_plain c waiting word o h).0
      go None e = plain_all waiting word h all
      go (Some flags) e = after_flag_all waiting word _ _ (bundle_all (length flags) flags h.skip plain (record h { skip = 0 }) e all)
