use Rattle.std.proofs.Common.{◌≡◌, ◌∙◌, ap, subst}
use Rattle.dimacs_col.specs.Lines.{lines_of}
use Rattle.interference.specs.Net.{IsNetwork, count_of}
use Rattle.program_texts.specs.PayloadTexts.{payload_texts}
use Rattle.transcripts.specs.TranscriptText.{stamped_row_text, text_of}
use Rattle.play_inputs.proofs.Settings.{lines-more}
use Rattle.plan_runs.specs.Transcripts.{stamped_edition}
use Rattle.play_runs.specs.Transcripts.{IsRecordText}
use Rattle.play_runs.proofs.transcript.alone_transcript_bytes.Goals as goal

-- the rows are a whole replay of the network that was read
pub returns-clause-ok : goal.returns-clause-ok
returns-clause-ok g c =
    let program = g.P.NodeProgram.program in
    let payloads = payload_texts g.P.Payload.PayloadText in
    let words = stamped_edition g.P.ProgramText.texts in
    let net = c.in_ok-network.network in
    let rows = c.in_ok-rows.rows.items in
    let text = c.in_ok-text_of_rows.field-0.items in
    let whole = c.in_ok-rows.ensures.whole in
    let line = stamped_row_text payloads in
    let is_text : text ≡ text_of words line (count_of net) rows = c.in_ok-text_of_rows.ensures.text
    ∙ ap (λ n. text_of words line n c.as_slice.result.now) c.nodes.ensures.count ∙ ap (text_of words line (count_of net)) c.as_slice.ensures.value in
    lines-more c.args.setting (lines_of c.args.input.now) (λ read. IsNetwork read × (net ≡ read))
    (λ read. IsNetwork read × IsRecordText program payloads words read text)
    (λ read both. (
      both.0,
      subst (λ n. IsRecordText program payloads words n text) both.1 (record { rows = rows; last = whole.0; is_replay = whole.1; is_text = is_text }),
    ))
    c.in_ok-network.ensures.ok
