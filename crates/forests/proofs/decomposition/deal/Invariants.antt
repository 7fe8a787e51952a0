use Rattle.std.proofs.Common.{◌≡◌, ◌<◌, ◌++◌, ℕ, [], length, get_or, map, take}
use Rattle.forests.specs.Dealing.{edge_at}
use Rattle.forests.proofs.decomposition.deal.Given as goal

abbrev pub invariant-loop-forest : goal.invariant-loop-forest
invariant-loop-forest l = (f : ℕ) → f < length l.initial.forests →
    get_or (map (λ edges. edges.items) l.forests) f [] ≡ get_or (map (λ edges. edges.items) l.initial.forests) f [] ++ edge_at f l.v (take l.forest l.parents)
