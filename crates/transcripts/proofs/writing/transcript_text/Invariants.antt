use Rattle.std.proofs.Common.{codes, take}
use Rattle.program_texts.specs.PayloadTexts.{payload_texts}
use Rattle.transcripts.specs.TranscriptText.{IsReadable, first_line_of, row_text}
use Rattle.transcripts.proofs.RowsSoFar.{AreWritten}
use Rattle.transcripts.proofs.writing.transcript_text.Given as goal

abbrev pub invariant-loop-row : goal.invariant-loop-row
invariant-loop-row g l =
    let payloads = payload_texts g.T.PayloadText in
    record {
      so_far : AreWritten (row_text payloads) (IsReadable payloads) (first_line_of (codes "1") l.nodes)
          (take l.row-index l.rows) l.text.items;
    }
