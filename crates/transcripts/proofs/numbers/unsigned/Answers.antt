use Rattle.std.proofs.Common.{◌∙◌, length, sym}
use Rattle.std.proofs.lemmas.Bool.{eqb-true}
use Rattle.dimacs_col.proofs.FieldNumbers.{number-empty, number-plus, unsigned-is}
use Rattle.transcripts.proofs.numbers.unsigned.Goals as goal

pub returns-then-is_empty : goal.returns-then-is_empty
returns-then-is_empty c = number-empty c.args.field.now (eqb-true (length c.args.field.now) 0 (sym c.is_empty.ensures ∙ c.if-is_empty.true))

pub returns-then-field-eq43 : goal.returns-then-field-eq43
returns-then-field-eq43 c = number-plus c.args.field.now c.if-field-eq43.true

pub returns : goal.returns
returns c = rw c.ok.ensures.value (unsigned-is (λ s. s.now) c.args.field.now _ c.from_utf8.result c.from_utf8.ensures.cases c.if-field-eq43.false)
