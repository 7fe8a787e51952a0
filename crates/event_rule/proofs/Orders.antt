-- The vertices by their numbers are an order in which every vertex has a turn, and nobody else: they are the numbers
-- from 1 to n, and each of these is in the range.
use Rattle.std.proofs.Common.{arith}
use Rattle.interference.specs.Net.{Net, count_of}
use Rattle.interference.proofs.Members.{Contains-range, range-bounds}
use Rattle.event_rule.specs.Laps.{OrdersExist}

pub orders : (net : Net) → OrdersExist net
orders net = (
  λ v vertex. Contains-range 1 (count_of net) v vertex.0 (omega (arith, vertex.1)),
  λ k d below.
      let bounds = range-bounds 1 (count_of net) k d below in
      (bounds.0, omega (arith, bounds.1)),
)
