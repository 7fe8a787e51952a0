use Rattle.std.proofs.Common.{◌≡◌, take}
use Rattle.std.specs.List.{flat_map}
use Rattle.forests.proofs.decomposition.join.Given as goal

abbrev pub invariant-loop-forest : goal.invariant-loop-forest
invariant-loop-forest l = l.edges.items ≡ flat_map (λ forest. forest.items) (take l.forest-index l.forests)
