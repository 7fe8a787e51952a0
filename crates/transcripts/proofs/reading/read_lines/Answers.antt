-- The plan: the lines that are left are the line at hand and those behind it. A wrong line is refused as the definition
-- refuses it (line-refused); a line more leaves the reader as the definition has it (line-read); at the end no line is left.
use Rattle.std.proofs.Common.{◌≡◌, ◌+◌, ◌∙◌, Err, IfOk, None, Ok, subst, sym}
use Rattle.std.proofs.lemmas.Result.{err_from_is_err_and}
use Rattle.dimacs_col.specs.Lines.{lines_of}
use Rattle.transcripts.specs.Reading.{known_after, read_at_end, read_from}
use Rattle.transcripts.specs.EditionRows.{row_in}
use Rattle.transcripts.proofs.Readings.{fault-end, fault-line, line-read, line-refused, read-end}
use Rattle.transcripts.proofs.reading.read_lines.Goals as goal

pub each-preserved : goal.each-preserved
each-preserved g c =
    let word = c.args.edition.now in
    let row = row_in g.R.EditionRow.STAMPED g.R.EditionRow.made g.T.PayloadText.payload_of in
    let whole = read_from word row (c.args.before + 1) None (lines_of c.args.text.now) in
    record {
      knows = line-read word row whole c.each.lines.0 c.in-Some.number c.each.reader.known c.each.lines.1 c.next.new.self.1 c.in-Some.fields
          c.each.invariant.knows c.in-Some.ensures.line c.in-Some.ensures.number c.next.new.self.0 c.step.new.reader.known
          c.in_ok-step.ensures.ok c.in-Some.ensures.before;
    }

pub returns-in_err-step-clause-fault : goal.returns-in_err-step-clause-fault
returns-in_err-step-clause-fault g c =
    let word = c.args.edition.now in
    let row = row_in g.R.EditionRow.STAMPED g.R.EditionRow.made g.T.PayloadText.payload_of in
    let whole = read_from word row (c.args.before + 1) None (lines_of c.args.text.now) in
    let p = err_from_is_err_and c.from_residual.result c.from_residual.ensures.1 in
    rw (p.1, p.2) (fault-line word row whole c.in-Some.number (known_after word row c.each.reader.known c.in-Some.fields ≡ None)
    c.in_err-step.field-0.0
    (line-refused word row whole c.each.lines.0 c.in-Some.number c.each.reader.known c.each.lines.1 c.next.new.self.1 c.in-Some.fields
    c.each.invariant.knows c.in-Some.ensures.line c.in-Some.ensures.number)
    c.in_err-step.ensures.fault)

-- at the end no line is left, so reading them ends as the reader stands
pub returns-clause-ok : goal.returns-clause-ok
returns-clause-ok g c =
    let word = c.args.edition.now in
    let row = row_in g.R.EditionRow.STAMPED g.R.EditionRow.made g.T.PayloadText.payload_of in
    let ended = read-end word row (c.args.before + 1) (lines_of c.args.text.now) (c.each.lines.0 + 1) c.each.reader.known c.each.lines.1
    c.in_default.ensures.none c.each.invariant.knows in
    subst (λ r. IfOk c.finish.result (λ read. r ≡ Ok (read.0, read.1.items))) (sym ended) c.finish.ensures.ok

pub returns-clause-fault : goal.returns-clause-fault
returns-clause-fault g c =
    let word = c.args.edition.now in
    let row = row_in g.R.EditionRow.STAMPED g.R.EditionRow.made g.T.PayloadText.payload_of in
    let start = c.args.before + 1 in
    let ended = read-end word row start (lines_of c.args.text.now) (c.each.lines.0 + 1) c.each.reader.known c.each.lines.1
    c.in_default.ensures.none c.each.invariant.knows in
    fault-end word row (read_from word row start None (lines_of c.args.text.now)) 1 (read_at_end c.each.reader.known ≡ Err 1)
    c.finish.result (λ wrong. ended ∙ wrong) c.finish.ensures.fault
