use Rattle.std.proofs.Common.{◌++◌, ◌∙◌, ap, append-nil, sym}
use Rattle.entries.specs.declared.rows.StampedRow.{StampedRow}
use Rattle.program_texts.specs.PayloadTexts.{payload_texts}
use Rattle.transcripts.specs.TranscriptText.{first_line_of, stamped_row_text}
use Rattle.play_runs.proofs.Rows.{rows_more}
use Rattle.plan_runs.specs.Transcripts.{stamped_edition}
use Rattle.play_runs.proofs.transcript.text_of_rows.Goals as goal

pub loop-row-init : goal.loop-row-init
loop-row-init g c =
    let line = first_line_of (stamped_edition g.P.ProgramText.texts) c.args.count in
    c.in_ok-push_edition_line.ensures ∙ ap (λ t. t ++ line) c.new-text.ensures.items ∙ sym (append-nil line)

pub loop-row-preserved : goal.loop-row-preserved
loop-row-preserved g c =
    let payloads = payload_texts g.P.Payload.PayloadText in
    let line = first_line_of (stamped_edition g.P.ProgramText.texts) c.args.count in
    rows_more (stamped_row_text payloads) c.args.rows.now c.loop-row.row-index c.row-item.result c.loop-row-test.true
    line c.loop-row.text.items c.push_stamped_row.new.text.items c.loop-row.invariant
    (c.in_ok-push_stamped_row.ensures.text ∙ ap (λ (row : StampedRow _). c.loop-row.text.items ++ stamped_row_text payloads row) c.row-item.is)
