use Rattle.std.proofs.Common.{arith}
use Rattle.dimacs_col.proofs.LineEnds.{lines-few}
use Rattle.dimacs_col.proofs.lines.Lines.behind.Goals as goal

pub invariant_of-result : goal.invariant_of-result
invariant_of-result c = (omega (arith, c.requires.room, lines-few c.args.text.now), tt)
