use Rattle.std.proofs.Common.{◌≡◌, ◌<◌, ap, arith, get_or, length}
use Rattle.interference.specs.Net.{neighbours}
use Rattle.channel_plan.proofs.checking.clash_of.Goals as goal

pub bounds-table-w : goal.bounds-table-w
bounds-table-w c =
    let port = c.loop-w.w-index in
    let within : port < length (neighbours c.args.net.now c.args.v) = omega (arith, ap length c.neighbours-w-items.ensures.value) in
    let vertex = c.neighbours-w-items.ensures.network.vertices c.args.v port c.requires.vertex within in
    let is : get_or c.neighbours-w-items.result.now port 0 ≡ get_or (neighbours c.args.net.now c.args.v) port 0 =
    ap (λ ws. get_or ws port 0) c.neighbours-w-items.ensures.value in
    omega (arith, is, vertex.0, vertex.1)
