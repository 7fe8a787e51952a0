use Rattle.std.proofs.Common.{◌≡◌, subst}
use Rattle.std.proofs.lemmas.Result.{err_from_is_err_and}
use Rattle.dimacs_col.specs.Lines.{lines_of}
use Rattle.interference.specs.Net.{IsNetwork}
use Rattle.program_texts.specs.PayloadTexts.{payload_texts}
use Rattle.play_inputs.proofs.Settings.{lines-more}
use Rattle.plan_runs.specs.Transcripts.{IsTranscriptOn, stamped_edition}
use Rattle.play_runs.proofs.Working.{recorders-fault}
use Rattle.play_runs.proofs.transcript.run_transcript_bytes.Goals as goal

-- the network was read, and the text is its transcript
pub returns-clause-ok : goal.returns-clause-ok
returns-clause-ok g c =
    let program = g.P.NodeProgram.program in
    let payloads = payload_texts g.P.Payload.PayloadText in
    let words = stamped_edition g.P.ProgramText.texts in
    let net = c.in_ok-network.network in
    let text = c.in_ok-run_transcript.field-0.items in
    lines-more c.args.setting (lines_of c.args.input.now) (λ read. IsNetwork read × (net ≡ read))
    (λ read. IsNetwork read × IsTranscriptOn program payloads words c.args.edition read text)
    (λ read both. (both.0, subst (λ n. IsTranscriptOn program payloads words c.args.edition n text) both.1 c.in_ok-run_transcript.ensures.ok))
    c.in_ok-network.ensures.ok

pub returns-in_err-run_transcript-clause-fault : goal.returns-in_err-run_transcript-clause-fault
returns-in_err-run_transcript-clause-fault g c =
    let p = err_from_is_err_and c.from_residual-in_err-run_transcript.result c.from_residual-in_err-run_transcript.ensures.1 in
    rw (p.1, p.2) (recorders-fault g.P.NodeProgram.program c.args.setting c.args.input.now c.in_ok-network.network c.args.options
    c.in_err-run_transcript.field-0.0 c.in_ok-network.ensures.ok c.in_err-run_transcript.ensures.fault)
