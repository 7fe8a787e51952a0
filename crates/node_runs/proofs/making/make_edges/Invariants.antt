use Rattle.port_rows.specs.Rows.{rows_of}
use Rattle.node_runs.specs.Makes.{AreMadeBefore}
use Rattle.node_runs.proofs.making.make_edges.Given as goal

abbrev pub invariant-loop-i : goal.invariant-loop-i
invariant-loop-i g l = record {
  made : AreMadeBefore l.net l.capacity l.v l.i l.made.links.items (rows_of l.made.ends.items);
}
