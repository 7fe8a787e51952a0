use Rattle.std.proofs.Common.{◌≡◌, ◌+◌, ◌++◌, drop, length}
use Rattle.dimacs_col.specs.Lines.{lines_of}
use Rattle.transcripts.specs.Behind.{numbers_from}
use Rattle.transcripts.proofs.behind.push_numbers.Given as goal

-- all numbers are those so far, and those of the lines that are left
abbrev pub invariant-each : goal.invariant-each
invariant-each l = record {
  numbers : l.fn.numbers.items ++ numbers_from (l.before + 2) (drop 1 (lines_of l.text))
      ≡ l.numbers.items ++ numbers_from (l.lines.0 + 1) l.lines.1;
}

abbrev pub decreases-each : goal.decreases-each
decreases-each l = length l.lines.1
