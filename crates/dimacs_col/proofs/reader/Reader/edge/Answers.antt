-- The plan: the two numbers that were read are the fields of the line (as-edge), so a vertex out of range is told as the
-- definition says; once the edge is put among the others (as-put), the reader knows one line more or the text is too large.
use Rattle.std.proofs.Common.{◌≡◌, ◌∙◌, ℕ, List, sym, ap, Some, arith}
use Rattle.dimacs_col.specs.Kinds.{kind_of_word}
use Rattle.dimacs_col.specs.Lines.{Line, field_at}
use Rattle.dimacs_col.specs.State.{Knows, kept_number}
use Rattle.dimacs_col.specs.declared.fault.ColFault.TheVariants.{EdgeBeforeProblem, VertexRange, TooLarge}
use Rattle.dimacs_col.specs.declared.kind.Kind.TheVariants.{Edge}
use Rattle.dimacs_col.proofs.Verdicts.{field_at-drop}
use Rattle.dimacs_col.proofs.Edges.{IsEdge, IsPut, told-range, told-large, knows-put}
use Rattle.dimacs_col.proofs.Refused.{edge_early, memory_judged}
use Rattle.dimacs_col.proofs.reader.Reader.edge.Goals as goal
use Rattle.dimacs_col.proofs.reader.Reader.edge.Goals.{In-Some-Some, After-is_too_large}

as-edge : (c : In-Some-Some) (before : List Line) (word : List ℕ) → Knows before c.args.self.now → kind_of_word word ≡ Edge →
    IsEdge before word c.args.fields c.args.self.now c.in-Some.nodes c.in-Some-Some.v c.in-Some-Some.w
as-edge c before word knows kind = record {
  knows = knows;
  kind = kind;
  nodes_is = c.in-Some.is;
  first = sym c.next_number.ensures.first ∙ c.in-Some-Some.is-0;
  second = sym (c.next_number-2.ensures.first ∙ ap (λ fs. kept_number (field_at fs 0)) c.next_number.ensures.rest ∙
      ap kept_number (field_at-drop c.args.fields 1 0)) ∙ c.in-Some-Some.is-1;
}

as-put : (c : After-is_too_large) (before : List Line) (word : List ℕ) →
    IsEdge before word c.args.fields c.args.self.now c.in-Some.nodes c.in-Some-Some.v c.in-Some-Some.w →
    IsPut before word c.args.fields c.args.self.now c.in-Some.nodes c.in-Some-Some.v c.in-Some-Some.w c.insert.new.self
as-put c before word edge = record {
  edge = edge;
  first_low = omega arith;
  first_high = omega arith;
  second_low = omega arith;
  second_high = omega arith;
  apart = c.if-v-w.false;
  members = rw (← c.ordered.ensures) c.in_ok-insert.ensures;
}

pub returns-then-v-eq0-clause-judged : goal.returns-then-v-eq0-clause-judged
returns-then-v-eq0-clause-judged c = λ before word knows line kind.
    let e = as-edge (goal.at.returns-then-v-eq0-clause-judged c).In-Some-Some before word knows kind in
    told-range before word c.args.fields c.args.self.now c.in-Some.nodes c.in-Some-Some.v c.in-Some-Some.w e (λ a b d f. omega arith) ∙
    ap (λ n. Some (VertexRange n)) (sym line)

pub returns-then-is_too_large-clause-judged : goal.returns-then-is_too_large-clause-judged
returns-then-is_too_large-clause-judged c = λ before word knows line kind.
    let at = goal.at.returns-then-is_too_large-clause-judged c in
    told-large before word c.args.fields c.args.self.now c.in-Some.nodes c.in-Some-Some.v c.in-Some-Some.w c.insert.new.self
    (as-put at.After-is_too_large before word (as-edge at.In-Some-Some before word knows kind)) (sym c.is_too_large.ensures ∙ c.if-is_too_large.true) ∙
    ap (λ n. Some (TooLarge n)) (sym line)

pub returns-clause-judged : goal.returns-clause-judged
returns-clause-judged c = λ before word knows line kind.
    let at = goal.at.returns-clause-judged c in
    knows-put before word c.args.fields c.args.self.now c.args.self.now.line c.in-Some.nodes c.in-Some-Some.v c.in-Some-Some.w c.insert.new.self
    (as-put at.After-is_too_large before word (as-edge at.In-Some-Some before word knows kind)) (sym c.is_too_large.ensures ∙ c.if-is_too_large.false)

pub returns-in_default-clause-judged : goal.returns-in_default-clause-judged
returns-in_default-clause-judged c = λ before word knows line kind.
    edge_early before word c.args.fields (sym knows.nodes_are ∙ c.in_default.is) kind ∙ ap (λ n. Some (EdgeBeforeProblem n)) (sym line)

pub returns-in_err-insert-clause-judged : goal.returns-in_err-insert-clause-judged
returns-in_err-insert-clause-judged c = λ before word knows line kind.
    memory_judged before _ _ c.from_residual.result c.from_residual.ensures.1
