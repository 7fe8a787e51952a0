use Rattle.std.proofs.Common.{codes, take}
use Rattle.program_texts.specs.PayloadTexts.{payload_texts}
use Rattle.transcripts.specs.TranscriptText.{IsReadableStamped, first_line_of, stamped_row_text}
use Rattle.transcripts.proofs.RowsSoFar.{AreWritten}
use Rattle.transcripts.proofs.writing.stamped_text.Given as goal

abbrev pub invariant-loop-row : goal.invariant-loop-row
invariant-loop-row g l =
    let payloads = payload_texts g.T.PayloadText in
    record {
      so_far : AreWritten (stamped_row_text payloads) (IsReadableStamped payloads) (first_line_of (codes "2") l.nodes)
          (take l.row-index l.rows) l.text.items;
    }
