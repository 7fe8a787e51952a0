use Rattle.std.proofs.Common.{◌∙◌, [], Bor, List, sym, ℕ}
use Rattle.dimacs_col.proofs.Splitting.{one-at}
use Rattle.dimacs_col.proofs.split.is_one_of.Goals as goal

abbrev none : Bor (List ℕ)
none = record { ref_ptr = (0, 0); now = [] }

pub returns-then-eq : goal.returns-then-eq
returns-then-eq c = sym (one-at c.args.field.now c.args.words.now c.loop-word.word-index none c.loop-word-test.true (sym c.eq.ensures ∙ c.if-eq.true))
