use Rattle.std.proofs.Common.{map}
use Rattle.wired_nodes.specs.Tables.{table_of}
use Rattle.port_rows.specs.Rows.{rows_of}
use Rattle.node_runs.specs.Makes.{tables_of}
use Rattle.node_pool.proofs.run.run_observed.Given as goal

abbrev pub ghosts-run_and_gather : goal.ghosts-run_and_gather
ghosts-run_and_gather g a = record {
  net = a.net.now;
  tables = tables_of (rows_of a.made.ends.items);
  links = map table_of a.made.links.items;
  transcript = a.options.transcript;
}
