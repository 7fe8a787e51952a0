use Rattle.std.specs.Prelude.{None, nat_lt, not, ◌&&◌}
use Rattle.std.specs.FinSet.{contains}
use Rattle.colour_rules.specs.InForests.{AreTurned}
use Rattle.colour_rules.proofs.colours.InForests.turn_as_root.Given as goal

abbrev pub invariant-loop-forest : goal.invariant-loop-forest
invariant-loop-forest l = AreTurned l.reduction l.id (λ f. None) (λ f. nat_lt f l.forest && not (contains l.heard f)) l.fn.self l.self
