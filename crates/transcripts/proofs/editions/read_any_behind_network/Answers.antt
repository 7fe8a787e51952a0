use Rattle.std.proofs.Common.{◌≡◌, ◌∙◌, IfErr, IfOk, Ok, ap, subst}
use Rattle.std.proofs.lemmas.List.{take_rest}
use Rattle.dimacs_col.specs.Lines.{lines_of}
use Rattle.transcripts.specs.Editions.{said_by}
use Rattle.transcripts.specs.Reading.{IsFaultOf}
use Rattle.transcripts.proofs.Either.{any-behind-is, no-any-behind}
use Rattle.transcripts.proofs.editions.read_any_behind_network.Goals as goal

pub returns-in-Some-clause-ok : goal.returns-in-Some-clause-ok
returns-in-Some-clause-ok g c =
    subst (λ r. IfOk c.read_any_named_lines.result (λ read. r ≡ Ok (said_by read)))
    (any-behind-is g.T.PayloadText.payload_of (lines_of c.args.input.now) _ c.in-Some.start.lines c.in-Some.ensures.lines
    (ap lines_of (take_rest c.args.input.now c.in-Some.start.bytes) ∙ c.in-Some.ensures.from))
    c.read_any_named_lines.ensures.ok

pub returns-in-Some-clause-fault : goal.returns-in-Some-clause-fault
returns-in-Some-clause-fault g c =
    subst (λ r. IfErr c.read_any_named_lines.result (IsFaultOf r))
    (any-behind-is g.T.PayloadText.payload_of (lines_of c.args.input.now) _ c.in-Some.start.lines c.in-Some.ensures.lines
    (ap lines_of (take_rest c.args.input.now c.in-Some.start.bytes) ∙ c.in-Some.ensures.from))
    c.read_any_named_lines.ensures.fault

pub returns-in-None-clause-fault : goal.returns-in-None-clause-fault
returns-in-None-clause-fault g c = no-any-behind g.T.PayloadText.payload_of (lines_of c.args.input.now) c.in-None.ensures.no_text
