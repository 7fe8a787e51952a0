use Rattle.std.proofs.Common.{◌≡◌, ◌∙◌, IfErr, IfOk, Ok, ap, codes, subst}
use Rattle.std.proofs.lemmas.List.{take_rest}
use Rattle.dimacs_col.specs.Lines.{lines_of}
use Rattle.transcripts.specs.EntryLines.{row_of}
use Rattle.transcripts.specs.Reading.{IsFaultOf}
use Rattle.transcripts.proofs.LinesBehind.{behind-is, nothing-behind}
use Rattle.transcripts.proofs.behind.read_behind_network.Goals as goal

pub returns-in-None-clause-fault : goal.returns-in-None-clause-fault
returns-in-None-clause-fault g c =
    nothing-behind (codes "1") (row_of g.T.PayloadText.payload_of) (lines_of c.args.input.now) c.in-None.ensures.no_text

pub returns-in-Some-clause-ok : goal.returns-in-Some-clause-ok
returns-in-Some-clause-ok g c =
    subst (λ r. IfOk c.read_lines.result (λ read. r ≡ Ok (read.0, read.1.items)))
    (behind-is (codes "1") (row_of g.T.PayloadText.payload_of) (lines_of c.args.input.now) _ c.in-Some.start.lines c.in-Some.ensures.lines
    (ap lines_of (take_rest c.args.input.now c.in-Some.start.bytes) ∙ c.in-Some.ensures.from))
    c.read_lines.ensures.ok

pub returns-in-Some-clause-fault : goal.returns-in-Some-clause-fault
returns-in-Some-clause-fault g c =
    subst (λ r. IfErr c.read_lines.result (IsFaultOf r))
    (behind-is (codes "1") (row_of g.T.PayloadText.payload_of) (lines_of c.args.input.now) _ c.in-Some.start.lines c.in-Some.ensures.lines
    (ap lines_of (take_rest c.args.input.now c.in-Some.start.bytes) ∙ c.in-Some.ensures.from))
    c.read_lines.ensures.fault
