use Rattle.std.proofs.Common.{refl, arith}
use Rattle.dimacs_col.specs.Reading.{nodes_of, edges_of, edge_count, ids_of, bars_of}
use Rattle.dimacs_col.proofs.Lists.{AllGood-none}
use Rattle.dimacs_col.proofs.reader.Reader.new.Goals as goal

pub returns-clause-knows : goal.returns-clause-knows
unfolding nodes_of edges_of edge_count ids_of bars_of
returns-clause-knows c = record {
  good = AllGood-none;
  nodes_are = refl;
  nodes_fit = tt;
  ids_are = λ v. rw c.new.ensures.empty refl;
  ids_fit = λ v id e. absurd (cc);
  edges_few = omega arith;
  edges_fit = λ pair e. absurd (cc);
  edges_are = λ pair. rw c.new-2.ensures refl;
  bars_are = λ bar. rw c.new-3.ensures.empty refl;
  bars_fit = λ bar e. absurd (cc);
  bars_counted = c.new-3.ensures.counted;
}
