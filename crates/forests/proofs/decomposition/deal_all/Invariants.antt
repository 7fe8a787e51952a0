use Rattle.std.proofs.Common.{◌≡◌, ◌<◌, ◌-◌, ℕ, [], length, get_or, map}
use Rattle.std.specs.List.{filter_map, range_with_len}
use Rattle.interference.specs.Net.{forest_count_of}
use Rattle.forests.specs.Forests.{edge_up}
use Rattle.forests.proofs.decomposition.deal_all.Given as goal

abbrev pub invariant-loop-v : goal.invariant-loop-v
invariant-loop-v l = (length l.forests.items ≡ forest_count_of l.net)
    × ((f : ℕ) → f < forest_count_of l.net → get_or (map (λ edges. edges.items) l.forests.items) f []
    ≡ filter_map (edge_up l.net f) (range_with_len 1 (l.v - 1)))
