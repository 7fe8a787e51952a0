use Rattle.std.proofs.Common.{◌+◌}
use Rattle.port_rows.specs.Crossing.{IsCrossedTo, place}
use Rattle.port_rows.specs.Rows.{rows_of}
use Rattle.port_rows.proofs.cross.crossed.Given as goal

abbrev pub invariant-loop-v : goal.invariant-loop-v
invariant-loop-v g l = IsCrossedTo l.net (rows_of l.fn.rows.items) (place (l.v + 1) 0) (rows_of l.rows.items)
