use Rattle.std.proofs.Common.{◌≡◌, ◌<◌, ◌+◌, sym, subst, arith}
use Rattle.interference.specs.Net.{degree_of}
use Rattle.port_rows.specs.Rows.{rows_of}
use Rattle.node_runs.specs.Makes.{AreMadeBefore}
use Rattle.node_runs.proofs.Edges.{edge-was_made, vertex-made}
use Rattle.node_runs.proofs.making.make_edges.Goals.{then-v-neighbour+in_ok-make_edge, else-v-neighbour}
use Rattle.node_runs.proofs.making.make_edges.Goals as goal

pub loop-i-preserved : goal.loop-i-preserved
loop-i-preserved g c =
    let net = c.args.net.now in
    let lt : c.loop-i.i < degree_of net c.args.v = omega (arith, c.loop-i-test.true, c.degree-i-end.ensures.value) in
    record {
      made = elim c.if-v-neighbour.branch [
        | then-v-neighbour+in_ok-make_edge w ↦
            subst (λ made. AreMadeBefore net c.args.capacity c.args.v (c.loop-i.i + 1) made.links.items (rows_of made.ends.items))
            (sym w.made-is)
            w.in_ok-make_edge.ensures.made
        | else-v-neighbour w ↦
            subst (λ made. AreMadeBefore net c.args.capacity c.args.v (c.loop-i.i + 1) made.links.items (rows_of made.ends.items))
            (sym w.made-is)
            (edge-was_made net c.args.capacity c.degree-i-end.ensures.network c.args.v c.requires.vertex _ _ c.loop-i.i lt
            (λ less. omega (arith, less, w.if-v-neighbour.false, c.neighbour.ensures.value)) c.loop-i.invariant.made)
      ];
    }

pub returns : goal.returns
returns g c =
    let net = c.args.net.now in
    let last : c.loop-i.i ≡ degree_of net c.args.v = omega (arith, c.loop-i-test.false, c.loop-i.auto.i-end, c.degree-i-end.ensures.value) in
    record {
      made = vertex-made net c.args.capacity c.degree-i-end.ensures.network c.args.v c.requires.vertex _ _
          (subst (λ i. AreMadeBefore net c.args.capacity c.args.v i c.loop-i.made.links.items (rows_of c.loop-i.made.ends.items)) last
          c.loop-i.invariant.made);
    }
