use Rattle.std.proofs.Common.{◌+◌, codes, length}
use Rattle.transcripts.specs.Behind.{network_lines, transcript_lines}
use Rattle.transcripts.specs.EntryLines.{row_of}
use Rattle.transcripts.proofs.EntryNumbers.{entries-have-lines}
use Rattle.transcripts.proofs.Texts.{texts-are-read-from}
use Rattle.transcripts.proofs.laws.transcripts_behind_are_read.Goals as goal

pub returns : goal.returns
returns g c = record {
  text = λ payload_of lines read. texts-are-read-from (codes "1") (row_of payload_of) (length (network_lines lines) + 1) (transcript_lines lines) read;
  entry_lines = λ payload_of lines read e. entries-have-lines (codes "1") (row_of payload_of) lines read e;
}
