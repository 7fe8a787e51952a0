use Rattle.std.proofs.Common.{◌≡◌, ◌+◌, None, length}
use Rattle.dimacs_col.specs.Lines.{lines_of}
use Rattle.channel_plan.specs.Reader.{known}
use Rattle.channel_plan.specs.Reading.{read_from}
use Rattle.channel_plan.proofs.reading.read_plan.Given as goal

-- the reading of all lines is that of the lines that are left, from what the reader knows
abbrev pub invariant-each : goal.invariant-each
invariant-each l = record {
  knows : read_from 1 None (lines_of l.text) ≡ read_from (l.lines.0 + 1) (known l.reader) l.lines.1;
}

abbrev pub decreases-each : goal.decreases-each
decreases-each l = length l.lines.1
