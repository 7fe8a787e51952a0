use Rattle.std.proofs.Common.{◌≡◌, ◌+◌, ◌∙◌, sym, refl, ap, subst, Some, None}
use Rattle.std.specs.List.{slice_get}
use Rattle.dimacs_col.specs.Lines.{fields_of}
use Rattle.dimacs_col.specs.Kinds.{kind_of}
use Rattle.dimacs_col.specs.State.{Judged}
use Rattle.dimacs_col.specs.declared.kind.Kind.TheVariants.{Skipped, Unknown}
use Rattle.dimacs_col.proofs.Verdicts.{no-first, with-first, verdict-unknown}
use Rattle.dimacs_col.proofs.Knowing.{knows-skipped}
use Rattle.dimacs_col.proofs.Refused.{fields_are, knows_on}
use Rattle.dimacs_col.proofs.reader.Reader.step.Goals as goal

pub returns-in_default-clause-judged : goal.returns-in_default-clause-judged
returns-in_default-clause-judged c = λ before knows line.
    let e : slice_get (fields_of c.args.line.now) 0 ≡ None = rw (← c.of-fields.ensures) (sym c.in_default.ensures.first) in
    knows-skipped before (fields_of c.args.line.now) c.args.self.now (c.args.self.now.line + 1) (no-first (fields_of c.args.line.now) e) knows

pub returns-in-Skipped-clause-judged : goal.returns-in-Skipped-clause-judged
returns-in-Skipped-clause-judged c = λ before knows line.
    let e : slice_get (fields_of c.args.line.now) 0 ≡ Some c.in-Some.first.now = rw (← c.of-fields.ensures) (sym c.in-Some.ensures.first) in
    let k : kind_of (fields_of c.args.line.now) ≡ Skipped = with-first (fields_of c.args.line.now) c.in-Some.first.now e ∙ sym c.of.ensures ∙ c.in-Skipped.is in
    knows-skipped before (fields_of c.args.line.now) c.args.self.now (c.args.self.now.line + 1) k knows

pub returns-in-Unknown-clause-judged : goal.returns-in-Unknown-clause-judged
returns-in-Unknown-clause-judged c = λ before knows line.
    let e : slice_get (fields_of c.args.line.now) 0 ≡ Some c.in-Some.first.now = rw (← c.of-fields.ensures) (sym c.in-Some.ensures.first) in
    let k : kind_of (fields_of c.args.line.now) ≡ Unknown = with-first (fields_of c.args.line.now) c.in-Some.first.now e ∙ sym c.of.ensures ∙ c.in-Unknown.is in
    verdict-unknown before (fields_of c.args.line.now) k ∙ rw line refl

pub returns-in-Problem-clause-judged : goal.returns-in-Problem-clause-judged
returns-in-Problem-clause-judged c = λ before knows line.
    let e : slice_get (fields_of c.args.line.now) 0 ≡ Some c.in-Some.first.now = rw (← c.of-fields.ensures) (sym c.in-Some.ensures.first) in
    subst (λ fs. Judged before fs c.problem.new.self c.problem.result)
    (sym (fields_are c.args.line.now _ c.in-Some.first.now _ c.of-fields.ensures e c.next.ensures.rest))
    (c.problem.ensures.judged before c.in-Some.first.now (knows_on before c.args.self.now _ knows) (ap (λ n. n + 1) line) (sym c.of.ensures ∙ c.in-Problem.is))

pub returns-in-Edge-clause-judged : goal.returns-in-Edge-clause-judged
returns-in-Edge-clause-judged c = λ before knows line.
    let e : slice_get (fields_of c.args.line.now) 0 ≡ Some c.in-Some.first.now = rw (← c.of-fields.ensures) (sym c.in-Some.ensures.first) in
    subst (λ fs. Judged before fs c.edge.new.self c.edge.result)
    (sym (fields_are c.args.line.now _ c.in-Some.first.now _ c.of-fields.ensures e c.next.ensures.rest))
    (c.edge.ensures.judged before c.in-Some.first.now (knows_on before c.args.self.now _ knows) (ap (λ n. n + 1) line) (sym c.of.ensures ∙ c.in-Edge.is))

pub returns-in-Identifier-clause-judged : goal.returns-in-Identifier-clause-judged
returns-in-Identifier-clause-judged c = λ before knows line.
    let e : slice_get (fields_of c.args.line.now) 0 ≡ Some c.in-Some.first.now = rw (← c.of-fields.ensures) (sym c.in-Some.ensures.first) in
    subst (λ fs. Judged before fs c.identify.new.self c.identify.result)
    (sym (fields_are c.args.line.now _ c.in-Some.first.now _ c.of-fields.ensures e c.next.ensures.rest))
    (c.identify.ensures.judged before c.in-Some.first.now (knows_on before c.args.self.now _ knows)
    (ap (λ n. n + 1) line) (sym c.of.ensures ∙ c.in-Identifier.is))

pub returns-in-Bar-clause-judged : goal.returns-in-Bar-clause-judged
returns-in-Bar-clause-judged c = λ before knows line.
    let e : slice_get (fields_of c.args.line.now) 0 ≡ Some c.in-Some.first.now = rw (← c.of-fields.ensures) (sym c.in-Some.ensures.first) in
    subst (λ fs. Judged before fs c.bar.new.self c.bar.result)
    (sym (fields_are c.args.line.now _ c.in-Some.first.now _ c.of-fields.ensures e c.next.ensures.rest))
    (c.bar.ensures.judged before c.in-Some.first.now (knows_on before c.args.self.now _ knows) (ap (λ n. n + 1) line) (sym c.of.ensures ∙ c.in-Bar.is))
