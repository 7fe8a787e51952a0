use Rattle.std.proofs.Common.{◌∙◌}
use Rattle.dimacs_col.proofs.FieldNumbers.{parsed}
use Rattle.transcripts.proofs.numbers.stamp_number.Goals as goal

pub returns : goal.returns
returns c = c.ok.ensures.value
    ∙ parsed 64 c.args.field.now c.in_ok-unsigned.field-0.now c.parse.result c.in_ok-unsigned.ensures.0 c.in_ok-unsigned.ensures.1 c.parse.ensures.value.0
