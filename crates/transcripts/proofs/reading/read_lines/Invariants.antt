use Rattle.std.proofs.Common.{◌≡◌, ◌+◌, None, length}
use Rattle.dimacs_col.specs.Lines.{lines_of}
use Rattle.transcripts.specs.EditionRows.{row_in}
use Rattle.transcripts.specs.Reading.{read_from}
use Rattle.transcripts.proofs.reading.read_lines.Given as goal

-- the reading of all lines is that of the lines that are left, from what the reader knows
abbrev pub invariant-each : goal.invariant-each
invariant-each g l =
    let word = l.edition in
    let row = row_in g.R.EditionRow.STAMPED g.R.EditionRow.made g.T.PayloadText.payload_of in
    record {
      knows : read_from word row (l.before + 1) None (lines_of l.text)
          ≡ read_from word row (l.lines.0 + 1) l.reader.known l.lines.1;
    }

abbrev pub decreases-each : goal.decreases-each
decreases-each g l = length l.lines.1
