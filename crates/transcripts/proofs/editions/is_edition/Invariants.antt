use Rattle.std.proofs.Common.{◌≡◌, length}
use Rattle.dimacs_col.specs.Lines.{lines_of}
use Rattle.transcripts.specs.Editions.{is_edition}
use Rattle.transcripts.proofs.editions.is_edition.Given as goal

-- no line so far has fields, so those that are left decide
abbrev pub invariant-each : goal.invariant-each
invariant-each l = record { left : is_edition l.edition (lines_of l.text) ≡ is_edition l.edition l.lines.1 }

abbrev pub decreases-each : goal.decreases-each
decreases-each l = length l.lines.1
