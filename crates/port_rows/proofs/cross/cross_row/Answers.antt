use Rattle.std.proofs.Common.{◌≡◌, subst, arith}
use Rattle.interference.specs.Net.{degree_of}
use Rattle.port_rows.specs.Crossing.{IsCrossedTo, place, with_row}
use Rattle.port_rows.specs.Rows.{rows_of}
use Rattle.port_rows.proofs.Crosses.{next_vertex}
use Rattle.port_rows.proofs.cross.cross_row.Goals as goal

pub loop-i-preserved : goal.loop-i-preserved
loop-i-preserved g c = record {
  count = c.cross_link.ensures.count;
  shape = c.cross_link.ensures.shape;
  crossed = λ all to. c.cross_link.ensures.crossed all (c.loop-i.invariant.crossed all to);
}

pub returns-clause-crossed : goal.returns-clause-crossed
returns-clause-crossed g c all to =
    let net = c.args.net.now in
    let last : c.loop-i.i ≡ degree_of net c.args.v = omega (arith, c.loop-i-test.false, c.loop-i.auto.i-end, c.degree-i-end.ensures.value) in
    next_vertex net c.degree-i-end.ensures.network all c.args.v _ c.requires.vertex
    (subst (λ i. IsCrossedTo net all (place c.args.v i) (with_row (rows_of c.loop-i.rows.items) c.args.v c.loop-i.row.items)) last
    (c.loop-i.invariant.crossed all to))
