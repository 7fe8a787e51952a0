use Rattle.std.proofs.Common.{◌≡◌, map, filter, nat_lt, take}
use Rattle.interference.specs.Net.{id_of}
use Rattle.forests.specs.Dealing.{with_id}
use Rattle.forests.proofs.decomposition.gather_parents.Given as goal

abbrev pub invariant-loop-neighbour : goal.invariant-loop-neighbour
invariant-loop-neighbour l = l.parents.items ≡ map (with_id l.net) (filter (λ w. nat_lt (id_of l.net l.v) (id_of l.net w))
    (take l.neighbour-index l.neighbour-items))
