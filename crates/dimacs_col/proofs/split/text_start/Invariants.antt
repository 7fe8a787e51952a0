use Rattle.std.proofs.Common.{◌≡◌, ◌≤◌, length, map}
use Rattle.dimacs_col.specs.Lines.{line_of}
use Rattle.dimacs_col.specs.Split.{words_in}
use Rattle.dimacs_col.proofs.Parts.{closed}
use Rattle.dimacs_col.proofs.Splitting.{AreBefore}
use Rattle.dimacs_col.proofs.split.text_start.Given as goal

-- no line so far begins with one of the words; how many lines these are, and how long with their line feeds
abbrev pub invariant-loop-line : goal.invariant-loop-line
invariant-loop-line l = record {
  steps : (goal.iterator-loop-line).can_next l.line-iterator × (goal.iterator-loop-line).is_finite l.line-iterator;
  before : AreBefore (words_in l.words) (map (λ x. line_of x.now) l.yielded);
  lines : l.start.lines ≡ length l.yielded;
  short : l.start.lines ≤ l.start.bytes;
  bytes : l.start.bytes ≡ length (closed (map (λ x. x.now) l.yielded));
}
