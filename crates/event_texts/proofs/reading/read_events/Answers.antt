-- The plan: the lines that are left are the line at hand and those behind it; a wrong line is refused as the definition
-- refuses it (fault-line); a line more leaves the reader as the definition has it; at the end no line is left (read-end).
use Rattle.std.proofs.Common.{◌≡◌, ◌+◌, ◌∙◌, Err, None, ap, sym}
use Rattle.std.proofs.lemmas.Result.{err_from_is_err_and}
use Rattle.dimacs_col.specs.Lines.{lines_of}
use Rattle.event_texts.specs.Reading.{known_after, read_from}
use Rattle.event_texts.proofs.Readings.{fault-line, read-end, read-one, then_read}
use Rattle.event_texts.proofs.reading.read_events.Goals as goal

pub each-preserved : goal.each-preserved
each-preserved c =
    let n = c.each.lines.0 + 1 in
    let now = c.each.reader.script.items in
    let next = c.step.new.self.script.items in
    let behind = c.next.new.self.1 in
    let same : c.in-Some.number ≡ n = c.in-Some.ensures.number in
    record {
      knows = c.each.invariant.knows ∙ ap (read_from n now) c.in-Some.ensures.line ∙ read-one n now c.in-Some.fields behind
          ∙ ap (then_read n behind) (ap (λ k. known_after k now c.in-Some.fields) (sym same) ∙ c.in_ok-step.ensures.ok)
          ∙ ap (λ k. read_from (k + 1) next behind) (sym (c.in-Some.ensures.before ∙ same));
    }

pub returns-in_err-step-clause-fault : goal.returns-in_err-step-clause-fault
returns-in_err-step-clause-fault c =
    let n = c.each.lines.0 + 1 in
    let now = c.each.reader.script.items in
    let behind = c.next.new.self.1 in
    let same : c.in-Some.number ≡ n = c.in-Some.ensures.number in
    let p = err_from_is_err_and c.from_residual.result c.from_residual.ensures.1 in
    rw (p.1, p.2) (fault-line (lines_of c.args.text.now) c.in-Some.number (known_after c.in-Some.number now c.in-Some.fields ≡ None)
    c.in_err-step.field-0.0
    (λ wrong. c.each.invariant.knows ∙ ap (read_from n now) c.in-Some.ensures.line ∙ read-one n now c.in-Some.fields behind
    ∙ ap (then_read n behind) (ap (λ k. known_after k now c.in-Some.fields) (sym same) ∙ wrong) ∙ ap Err (sym same))
    c.in_err-step.ensures.fault)

pub returns-clause-ok : goal.returns-clause-ok
returns-clause-ok c =
    read-end (lines_of c.args.text.now) (c.each.lines.0 + 1) c.each.reader.script.items c.each.lines.1 c.in_default.ensures.none
    c.each.invariant.knows
