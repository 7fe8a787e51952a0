use Rattle.std.proofs.Common.{◌≡◌, ◌+◌, ◌++◌, ◌∙◌, [], ap, append-nil, arith, drop, sym}
use Rattle.std.proofs.lemmas.Result.{IfOk-from_err}
use Rattle.dimacs_col.specs.Lines.{lines_of}
use Rattle.transcripts.specs.Behind.{numbers_from}
use Rattle.transcripts.proofs.LinesBehind.{number-blank}
use Rattle.transcripts.proofs.behind.push_numbers.Goals as goal

-- behind the first line are the lines that are left, and the next one has the next number
pub each-init : goal.each-init
each-init c =
    let known = c.args.numbers.now.items in
    let behind : drop 1 (lines_of c.args.text.now) ≡ c.next.new.self.1 =
    ap (λ l. drop 1 l.1) (sym c.behind-lines.ensures) ∙ ap (drop 1) c.in-Some.ensures.line in
    let number : c.args.before + 2 ≡ c.next.new.self.0 + 1 =
    omega (arith, c.in-Some.ensures.before, c.in-Some.ensures.number, ap (λ l. l.0) c.behind-lines.ensures) in
    record {
      numbers = ap (λ k. known ++ numbers_from k (drop 1 (lines_of c.args.text.now))) number
          ∙ ap (λ l. known ++ numbers_from (c.next.new.self.0 + 1) l) behind;
    }

-- without a first line there are no numbers
pub returns-in_default : goal.returns-in_default
returns-in_default c =
    let known = c.args.numbers.now.items in
    let none : lines_of c.args.text.now ≡ [] = ap (λ l. l.1) (sym c.behind-lines.ensures) ∙ c.in_default.ensures.none in
    sym (append-nil known) ∙ ap (λ l. known ++ numbers_from (c.args.before + 2) (drop 1 l)) (sym none)

pub returns-in_err-push : goal.returns-in_err-push
returns-in_err-push c = IfOk-from_err c.from_residual.result _ c.from_residual.ensures.0

-- a line without a field has no number
pub each-preserved : goal.each-preserved
each-preserved c = record {
  numbers = c.each.invariant.numbers
      ∙ ap (λ l. c.each.numbers.items ++ l)
      (number-blank (c.each.lines.0 + 1) c.next-in-each.new.self.0 c.in-Some-next.fields c.each.lines.1 c.next-in-each.new.self.1
      c.in-Some-next.ensures.line (sym c.has_fields.ensures ∙ c.if-has_fields.false) (c.in-Some-next.ensures.before ∙ c.in-Some-next.ensures.number));
}

pub returns : goal.returns
returns c =
    sym (c.each.invariant.numbers
    ∙ ap (λ l. c.each.numbers.items ++ numbers_from (c.each.lines.0 + 1) l) c.in_default-next.ensures.none
    ∙ append-nil c.each.numbers.items)
