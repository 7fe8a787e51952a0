use Rattle.std.proofs.Common.{}
use Rattle.std.specs.Prelude.{codes}
use Rattle.std.proofs.lemmas.Result.{err_from_is_err_and}
use Rattle.colour_rules.specs.Program.{colouring}
use Rattle.plan_runs.specs.Payloads.{colouring_payloads}
use Rattle.plan_runs.specs.Transcripts.{IsTranscriptOn}
use Rattle.plan_runs.proofs.Recording.{read-as}
use Rattle.plan_runs.proofs.Working.{recorders-fault}
use Rattle.plan_runs.proofs.transcript.transcript_bytes.Goals as goal

-- the network was read, and the text is its transcript
pub returns-clause-ok : goal.returns-clause-ok
returns-clause-ok g c =
    let text = c.in_ok-run_transcript.field-0.items in
    read-as c.args.input.now c.in_ok-network.network (λ net. IsTranscriptOn colouring colouring_payloads (codes "2") c.args.edition net text)
    c.in_ok-network.ensures.ok c.in_ok-run_transcript.ensures.ok

pub returns-in_err-run_transcript-clause-fault : goal.returns-in_err-run_transcript-clause-fault
returns-in_err-run_transcript-clause-fault g c =
    let p = err_from_is_err_and c.from_residual-in_err-run_transcript.result c.from_residual-in_err-run_transcript.ensures.1 in
    rw (p.1, p.2) (recorders-fault colouring c.args.input.now c.in_ok-network.network c.args.options c.in_err-run_transcript.field-0.0
    c.in_ok-network.ensures.ok c.in_err-run_transcript.ensures.fault)
