use Rattle.std.proofs.Common.{◌+◌}
use Rattle.port_rows.specs.Rows.{rows_of}
use Rattle.node_runs.specs.Makes.{AreMadeBefore}
use Rattle.node_runs.proofs.making.make_links.Given as goal

abbrev pub invariant-loop-v : goal.invariant-loop-v
invariant-loop-v g l = record {
  made : AreMadeBefore l.net l.capacity (l.v + 1) 0 l.made.links.items (rows_of l.made.ends.items);
}
