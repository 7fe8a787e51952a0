use Rattle.std.proofs.Common.{codes}
use Rattle.transcripts.specs.EntryLines.{row_of, stamped_row_of}
use Rattle.transcripts.proofs.Texts.{texts-are-read-from}
use Rattle.transcripts.proofs.laws.transcript_texts_are_read.Goals as goal

pub returns : goal.returns
returns g c = record {
  law = λ payload_of. texts-are-read-from (codes "1") (row_of payload_of) 1;
  stamped = λ payload_of. texts-are-read-from (codes "2") (stamped_row_of payload_of) 1;
}
