use Rattle.std.proofs.Common.{◌≡◌, ◌++◌, flat_map, take}
use Rattle.program_texts.specs.PayloadTexts.{payload_texts}
use Rattle.transcripts.specs.TranscriptText.{first_line_of, stamped_row_text}
use Rattle.plan_runs.specs.Transcripts.{stamped_edition}
use Rattle.play_runs.proofs.transcript.text_of_rows.Given as goal

-- the lines of the rows so far
abbrev pub invariant-loop-row : goal.invariant-loop-row
invariant-loop-row g l =
    let payloads = payload_texts g.P.Payload.PayloadText in
    l.text.items ≡ first_line_of (stamped_edition g.P.ProgramText.texts) l.count ++ flat_map (stamped_row_text payloads) (take l.row-index l.rows)
