-- The plan: the lines that are left are the line at hand and those behind it; a wrong line is refused as the definition
-- refuses it (fault-line); a line more leaves the reader as the definition has it; at the end no line is left (read-end).
use Rattle.std.proofs.Common.{◌≡◌, ◌+◌, ◌∙◌, Err, IfOk, None, Ok, ap, subst, sym}
use Rattle.std.proofs.lemmas.Result.{err_from_is_err_and}
use Rattle.dimacs_col.specs.Lines.{lines_of}
use Rattle.channel_plan.specs.Reader.{known}
use Rattle.channel_plan.specs.Reading.{known_after, read_at_end, read_from}
use Rattle.channel_plan.proofs.Readings.{fault-end, fault-line, read-end, read-one, then_read}
use Rattle.channel_plan.proofs.reading.read_plan.Goals as goal

pub each-preserved : goal.each-preserved
each-preserved c =
    let n = c.each.lines.0 + 1 in
    let now = known c.each.reader in
    let behind = c.next.new.self.1 in
    record {
      knows = c.each.invariant.knows ∙ ap (read_from n now) c.in-Some.ensures.line ∙ read-one n now c.in-Some.fields behind
          ∙ ap (then_read n behind) c.in_ok-step.ensures.ok
          ∙ ap (λ k. read_from (k + 1) (known c.step.new.self) behind) (sym (c.in-Some.ensures.before ∙ c.in-Some.ensures.number));
    }

pub returns-in_err-step-clause-fault : goal.returns-in_err-step-clause-fault
returns-in_err-step-clause-fault c =
    let n = c.each.lines.0 + 1 in
    let now = known c.each.reader in
    let behind = c.next.new.self.1 in
    let p = err_from_is_err_and c.from_residual.result c.from_residual.ensures.1 in
    rw (p.1, p.2) (fault-line (lines_of c.args.text.now) c.in-Some.number (known_after now c.in-Some.fields ≡ None) c.in_err-step.field-0.0
    (λ wrong. c.each.invariant.knows ∙ ap (read_from n now) c.in-Some.ensures.line ∙ read-one n now c.in-Some.fields behind
    ∙ ap (then_read n behind) wrong ∙ ap Err (sym c.in-Some.ensures.number))
    c.in_err-step.ensures.fault)

pub returns-clause-ok : goal.returns-clause-ok
returns-clause-ok c =
    let ended = read-end (lines_of c.args.text.now) (c.each.lines.0 + 1) (known c.each.reader) c.each.lines.1 c.in_default.ensures.none
    c.each.invariant.knows in
    subst (λ r. IfOk c.finish.result (λ plan. r ≡ Ok plan.rows.items)) (sym ended) c.finish.ensures.ok

pub returns-clause-fault : goal.returns-clause-fault
returns-clause-fault c =
    let ended = read-end (lines_of c.args.text.now) (c.each.lines.0 + 1) (known c.each.reader) c.each.lines.1 c.in_default.ensures.none
    c.each.invariant.knows in
    fault-end (lines_of c.args.text.now) 1 (read_at_end (known c.each.reader) ≡ Err 1) c.finish.result (λ wrong. ended ∙ wrong) c.finish.ensures.fault
