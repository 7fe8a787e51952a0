use Rattle.std.proofs.Common.{◌≡◌, [], map, replicate}
use Rattle.forests.proofs.decomposition.empty_forests.Given as goal

abbrev pub invariant-loop-forest : goal.invariant-loop-forest
invariant-loop-forest l = map (λ edges. edges.items) l.forests.items ≡ replicate l._forest []
