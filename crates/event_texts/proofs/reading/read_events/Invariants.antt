use Rattle.std.proofs.Common.{◌≡◌, ◌+◌, [], length}
use Rattle.dimacs_col.specs.Lines.{lines_of}
use Rattle.event_texts.specs.Reading.{read_from}
use Rattle.event_texts.proofs.reading.read_events.Given as goal

-- the reading of all lines is that of the lines that are left, from what the reader knows
abbrev pub invariant-each : goal.invariant-each
invariant-each l = record {
  knows : read_from 1 [] (lines_of l.text) ≡ read_from (l.lines.0 + 1) l.reader.script.items l.lines.1;
}

abbrev pub decreases-each : goal.decreases-each
decreases-each l = length l.lines.1
