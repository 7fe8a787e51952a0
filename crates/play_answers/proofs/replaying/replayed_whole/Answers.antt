use Rattle.std.proofs.Common.{◌∙◌, subst, sym}
use Rattle.dimacs_col.specs.Lines.{lines_of}
use Rattle.transcripts.specs.Behind.{entry_lines}
use Rattle.transcripts.proofs.Either.{no-any-behind}
use Rattle.program_texts.specs.PayloadTexts.{payload_texts}
use Rattle.play_answers.specs.ReplayAnswers.{IsFaultOfStamped}
use Rattle.play_answers.proofs.WholeRefusals.{whole-refused}
use Rattle.play_answers.proofs.replaying.replayed_whole.Goals as goal

-- the rows were read, so there is a transcript
pub first_line_in-first-requires : goal.first_line_in-first-requires
first_line_in-first-requires g c = record {
  begins = λ none. let wrong = sym (no-any-behind g.P.Payload.PayloadText.payload_of (lines_of c.args.input.now) none) ∙ c.requires.read.1 in cc;
}

pub returns-in_ok-lines-in-Err-clause-fault : goal.returns-in_ok-lines-in-Err-clause-fault
returns-in_ok-lines-in-Err-clause-fault g c =
    let program = g.P.NodeProgram.program in
    let payloads = payload_texts g.P.Payload.PayloadText in
    let refused = c.in-Err.refused in
    let net = c.args.network.now in
    let rows = c.args.rows.now in
    let first = c.first_line_in-first.result in
    whole-refused program payloads net c.requires.network (lines_of c.args.input.now) c.requires.read.0 rows refused
    c.fault_of_stamped.result
    c.requires.read.1 (λ no. c.in-Err.ensures.refuses no)
    (subst (λ first. IsFaultOfStamped program payloads net rows first (entry_lines (lines_of c.args.input.now)) refused c.fault_of_stamped.result)
    c.first_line_in-first.ensures
    (subst (λ numbers. IsFaultOfStamped program payloads net rows first numbers refused c.fault_of_stamped.result)
    (c.as_slice.ensures.value ∙ c.in_ok-lines-in-Err.ensures)
    c.fault_of_stamped.ensures))
