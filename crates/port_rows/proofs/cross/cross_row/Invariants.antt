use Rattle.std.proofs.Common.{◌≡◌, List, vec_len}
use Rattle.interference.specs.Net.{count_of}
use Rattle.port_rows.specs.Crossing.{IsCrossedTo, place, with_row}
use Rattle.port_rows.specs.Rows.{HasShape, rows_of}
use Rattle.port_rows.proofs.cross.cross_row.Given as goal

abbrev pub invariant-loop-i : goal.invariant-loop-i
invariant-loop-i g l = record {
  count : vec_len l.rows ≡ count_of l.net;
  shape : HasShape l.net (with_row (rows_of l.rows.items) l.fn.v l.row.items);
  crossed : (all : List (List g.row.T.Denot))
      → IsCrossedTo l.net all (place l.fn.v 0) (with_row (rows_of l.initial.rows.items) l.fn.v l.initial.row.items)
      → IsCrossedTo l.net all (place l.fn.v l.i) (with_row (rows_of l.rows.items) l.fn.v l.row.items);
}
