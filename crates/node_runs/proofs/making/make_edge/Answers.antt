use Rattle.std.proofs.Common.{◌≡◌, length, refl, arith}
use Rattle.node_runs.proofs.Edges.{edge-pushed}
use Rattle.node_runs.proofs.making.make_edge.Goals as goal

pub returns : goal.returns
returns g c =
    let so_far = c.requires.before in
    let long : c.len-put_index.result ≡ length c.args.made.now.links.items = omega (arith, c.len-put_index.ensures, c.args.made.now.links.ok.0) in
    record {
      made = edge-pushed c.args.net.now c.args.capacity c.neighbour-w.ensures.network c.args.v c.args.i c.neighbour-w.result c.back_port-j.result
          c.requires.vertex c.requires.port c.requires.greater c.neighbour-w.ensures.value c.back_port-j.ensures.value c.in_ok-out.out c.in_ok-back.back so_far
          refl c.in_ok-push_two.ensures refl c.in_ok-push_to_both.ensures.rows long refl (refl, refl)
          (c.in_ok-out.ensures.capacity, c.in_ok-back.ensures.capacity) c.in_ok-out.ensures.put_end c.in_ok-out.ensures.take_end
          c.in_ok-back.ensures.put_end c.in_ok-back.ensures.take_end;
    }
