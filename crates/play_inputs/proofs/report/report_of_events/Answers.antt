use Rattle.std.proofs.Common.{◌≡◌, ◌++◌, IfOk, codes, subst, sym}
use Rattle.reports.specs.Lines.{at_line, line_with}
use Rattle.play_inputs.specs.Faults.{event_text}
use Rattle.play_inputs.proofs.report.report_of_events.Goals as goal

pub returns-in-NothingToPut-clause-line : goal.returns-in-NothingToPut-clause-line
returns-in-NothingToPut-clause-line c =
    let name = c.args.name.now in
    let made = c.refusal_in_words-in-NothingToPut.result in
    subst (λ fault. IfOk made (λ report. report.line.items ≡ line_with name (event_text fault).0)) (sym c.in-NothingToPut.is)
    (subst (λ words. IfOk made (λ report. report.line.items ≡ line_with name (at_line (codes "NothingToPut") c.in-NothingToPut.n ++ words)))
    c.as_slice-in-NothingToPut.ensures.value c.refusal_in_words-in-NothingToPut.ensures.line)
