use Rattle.std.proofs.Common.{◌≡◌, ℕ, ◌<◌, false}
use Rattle.std.specs.Prelude.{slice_index}
use Rattle.colour_rules.specs.Table.{is_above}
use Rattle.colour_rules.specs.InForests.{colours_in}
use Rattle.colour_rules.proofs.colours.InForests.has_above.Given as goal

abbrev pub invariant-loop-forest : goal.invariant-loop-forest
invariant-loop-forest l = (f : ℕ) → f < l.forest → is_above l.reduction (slice_index (colours_in l.id l.self) f) ≡ false
