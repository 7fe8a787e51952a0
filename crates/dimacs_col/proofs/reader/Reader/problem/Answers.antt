use Rattle.std.proofs.Common.{◌∙◌, sym, ap, drop, Some, arith}
use Rattle.graph_limits.specs.declared.limits.TheConstants.{MAX_NODES}
use Rattle.dimacs_col.specs.Lines.{field_at}
use Rattle.dimacs_col.specs.State.{kept_number}
use Rattle.dimacs_col.proofs.Verdicts.{field_at-drop, kept-from, kept-inside, none-from, verdict-problem}
use Rattle.dimacs_col.proofs.Knowing.{knows-problem}
use Rattle.dimacs_col.proofs.reader.Reader.problem.Goals as goal

pub returns-clause-judged : goal.returns-clause-judged
returns-clause-judged c = λ before word knows line kind.
    let known = c.next_is_format-known.ensures.rest in
    let later = c.next_number-nodes.ensures.rest ∙ ap (drop 1) known in
    let a = kept-from (field_at c.args.fields 1) c.in-true-Some-Some.nodes (sym (c.next_number-nodes.ensures.first ∙
    ap (λ fs. kept_number (field_at fs 0)) known ∙ ap kept_number (field_at-drop c.args.fields 1 0)) ∙ c.in-true-Some-Some.is-1) in
    let b = kept-from (field_at c.args.fields 2) c.in-true-Some-Some.field-0-2 (sym (c.next_number-edges.ensures.first ∙
    ap (λ fs. kept_number (field_at fs 0)) later ∙ ap kept_number (field_at-drop (drop 1 c.args.fields) 1 0 ∙ field_at-drop c.args.fields 1 1)) ∙
    c.in-true-Some-Some.is-2) in
    let small = c.if-nodes-gt-MAX_NODES.false in
    let i = kept-inside MAX_NODES a.number c.in-true-Some-Some.nodes (omega arith) a.kept_is small in
    let none = none-from c.args.self.now.nodes (sym c.is_some.ensures ∙ c.if-is_some.false) in
    let is = a.is ∙ ap Some i in
    knows-problem before word c.args.fields c.args.self.now c.args.self.now.line c.in-true-Some-Some.nodes kind knows none is small
    (verdict-problem before word c.args.fields c.in-true-Some-Some.nodes b.number kind (sym knows.nodes_are ∙
    none) (sym c.in-true-Some-Some.ensures.first) is b.is small)
