use Rattle.std.proofs.Common.{◌≡◌, ◌∙◌, Ok, ap, subst, sym}
use Rattle.std.proofs.lemmas.Result.{IfOk-weaker}
use Rattle.dimacs_col.specs.Lines.{lines_of}
use Rattle.event_rule.specs.Replays.{IsReplay}
use Rattle.event_rule.specs.Whole.{IsWholeReplay}
use Rattle.transcripts.specs.Editions.{One, Two, said_by}
use Rattle.program_texts.specs.PayloadTexts.{payload_texts}
use Rattle.play_answers.specs.ReplayAnswers.{transcript_in}
use Rattle.play_answers.proofs.replaying.replayed.Goals as goal

pub returns-in-One-clause-ok : goal.returns-in-One-clause-ok
returns-in-One-clause-ok g c =
    let program = g.P.NodeProgram.program in
    let payloads = payload_texts g.P.Payload.PayloadText in
    let nodes = c.in-One.field-0 in
    let rows = c.in-One.rows.items in
    let read : transcript_in payloads (lines_of c.args.input.now) ≡ Ok (One (nodes, rows)) =
    c.in_ok-rows.ensures.ok ∙ ap (λ r. Ok (said_by r)) c.in-One.is in
    IfOk-weaker c.replayed_entries.result _ _
    (λ view is. (One (nodes, rows), read, subst (λ l. IsReplay program c.args.network.now l view.state) c.as_slice.ensures.value is))
    c.replayed_entries.ensures.ok

pub returns-in-Two-clause-ok : goal.returns-in-Two-clause-ok
returns-in-Two-clause-ok g c =
    let program = g.P.NodeProgram.program in
    let payloads = payload_texts g.P.Payload.PayloadText in
    let nodes = c.in-Two.field-0 in
    let rows = c.in-Two.rows.items in
    let read : transcript_in payloads (lines_of c.args.input.now) ≡ Ok (Two (nodes, rows)) =
    c.in_ok-rows.ensures.ok ∙ ap (λ r. Ok (said_by r)) c.in-Two.is in
    IfOk-weaker c.replayed_whole.result _ _
    (λ view is. (Two (nodes, rows), read, subst (λ l. IsWholeReplay program c.args.network.now l view.state) c.as_slice-in-Two.ensures.value is))
    c.replayed_whole.ensures.ok

pub replayed_whole-requires-clause-read : goal.replayed_whole-requires-clause-read
replayed_whole-requires-clause-read g c κs within =
    let payloads = payload_texts g.P.Payload.PayloadText in
    let nodes = c.in-Two.field-0 in
    let rows = c.in-Two.rows.items in
    let read : transcript_in payloads (lines_of c.args.input.now) ≡ Ok (Two (nodes, rows)) =
    c.in_ok-rows.ensures.ok ∙ ap (λ r. Ok (said_by r)) c.in-Two.is in
    (nodes, subst (λ l. transcript_in payloads (lines_of c.args.input.now) ≡ Ok (Two (nodes, l))) (sym c.as_slice-in-Two.ensures.value) read)
