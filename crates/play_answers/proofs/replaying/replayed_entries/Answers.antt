use Rattle.std.proofs.Common.{◌∙◌, subst}
use Rattle.dimacs_col.specs.Lines.{lines_of}
use Rattle.program_texts.specs.PayloadTexts.{payload_texts}
use Rattle.play_answers.specs.ReplayAnswers.{IsFaultOfEntry}
use Rattle.play_answers.proofs.RefusedLines.{fault-refused}
use Rattle.play_answers.proofs.replaying.replayed_entries.Goals as goal

pub returns-in_ok-lines-in-Err-clause-fault : goal.returns-in_ok-lines-in-Err-clause-fault
returns-in_ok-lines-in-Err-clause-fault g c =
    let program = g.P.NodeProgram.program in
    let payloads = payload_texts g.P.Payload.PayloadText in
    let refused = c.in-Err.refused in
    let net = c.args.network.now in
    let rows = c.args.rows.now in
    λ nodes e.
    fault-refused program payloads net c.requires.network (lines_of c.args.input.now) (nodes, rows) refused c.fault_of_entry.result e
    (λ no. c.in-Err.ensures.refuses no)
    (subst (λ numbers. IsFaultOfEntry program payloads net rows numbers refused c.fault_of_entry.result)
    (c.as_slice.ensures.value ∙ c.in_ok-lines-in-Err.ensures) c.fault_of_entry.ensures)
