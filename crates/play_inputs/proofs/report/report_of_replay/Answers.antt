use Rattle.std.proofs.Common.{◌≡◌, ◌++◌, IfOk, codes, subst, sym}
use Rattle.reports.specs.Lines.{at_line, line_with}
use Rattle.play_inputs.specs.Faults.{replay_text}
use Rattle.play_inputs.proofs.report.report_of_replay.Goals as goal

pub returns-in-NothingToPut-clause-line : goal.returns-in-NothingToPut-clause-line
returns-in-NothingToPut-clause-line c =
    let name = c.args.name.now in
    let made = c.refusal_in_words-in-NothingToPut.result in
    subst (λ fault. IfOk made (λ report. report.line.items ≡ line_with name (replay_text fault).0)) (sym c.in-NothingToPut.is)
    (subst (λ words. IfOk made (λ report. report.line.items ≡ line_with name (at_line (codes "NothingToPut") c.in-NothingToPut.n ++ words)))
    c.as_slice-in-NothingToPut.ensures.value c.refusal_in_words-in-NothingToPut.ensures.line)

pub returns-in-WrongProgram-clause-line : goal.returns-in-WrongProgram-clause-line
returns-in-WrongProgram-clause-line c =
    let name = c.args.name.now in
    let made = c.refusal_in_words.result in
    subst (λ fault. IfOk made (λ report. report.line.items ≡ line_with name (replay_text fault).0)) (sym c.in-WrongProgram.is)
    (subst (λ words. IfOk made (λ report. report.line.items ≡ line_with name (at_line (codes "WrongProgram") c.in-WrongProgram.n ++ words)))
    c.as_slice.ensures.value c.refusal_in_words.ensures.line)

pub returns-in-WrongStamp-clause-line : goal.returns-in-WrongStamp-clause-line
returns-in-WrongStamp-clause-line c =
    subst (λ fault. IfOk c.refusal-in-WrongStamp.result (λ report. report.line.items ≡ line_with c.args.name.now (replay_text fault).0))
    (sym c.in-WrongStamp.is) c.refusal-in-WrongStamp.ensures.line
