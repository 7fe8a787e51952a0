-- The plan: the vertex and the identifier that were read are the fields of the line (as-value, as-named), so the reader knows one
-- line more; that each fault is the verdict of the line, the search finds.
use Rattle.std.proofs.Common.{◌≡◌, ◌∙◌, ℕ, List, Some, ap, arith, sym, true}
use Rattle.dimacs_col.specs.Kinds.{kind_of_word}
use Rattle.dimacs_col.specs.Lines.{Line, field_at, identifier_in, is_identifier, number_of}
use Rattle.dimacs_col.specs.State.{Knows}
use Rattle.dimacs_col.specs.declared.kind.Kind.TheVariants.{Identifier}
use Rattle.dimacs_col.proofs.Verdicts.{field_at-drop, none-from}
use Rattle.dimacs_col.proofs.FieldNumbers.{value-from}
use Rattle.dimacs_col.proofs.Identifiers.{IsNamed, knows-named}
use Rattle.dimacs_col.proofs.reader.Reader.identify.Goals as goal

as-value : (c : goal.Else-is_some) → (number_of (field_at c.args.fields 1) ≡ Some c.in-Value.id) × (is_identifier c.in-Value.id ≡ true)
as-value c = value-from (field_at c.args.fields 1) c.in-Value.id (sym (ap identifier_in (field_at-drop c.args.fields 1 0))
    ∙ (sym (ap (λ fs. identifier_in (field_at fs 0)) c.next_number.ensures.rest) ∙ (sym c.next_identifier-id.ensures.first ∙ c.in-Value.is)))

as-named : (c : goal.Else-is_some) (before : List Line) (word : List ℕ) → Knows before c.args.self.now → kind_of_word word ≡ Identifier →
    IsNamed before word c.args.fields c.args.self.now c.in-Some.nodes c.in-Some-next_number.v c.in-Value.id
as-named c before word knows kind = record {
  knows = knows;
  kind = kind;
  nodes_is = c.in-Some.is;
  first = sym c.next_number.ensures.first ∙ c.in-Some-next_number.is;
  second = (as-value c).0;
}

pub returns-clause-judged : goal.returns-clause-judged
returns-clause-judged c = λ before word knows line kind.
    knows-named before word c.args.fields c.args.self.now c.in-Some.nodes c.in-Some-next_number.v c.in-Value.id
    (as-named c before word knows kind) (omega arith) (omega arith) c.args.self.now.line c.insert.new.self (as-value c).1
    (sym c.in_ok-insert.ensures.old ∙ none-from c.in_ok-insert.field-0 (sym c.is_some.ensures ∙ c.if-is_some.false))
    c.in_ok-insert.ensures.updates
