use Rattle.std.proofs.Common.{◌≡◌, drop, map}
use Rattle.outcomes.specs.Meets.{history_of_met}
use Rattle.outcomes.specs.Outcome.{none_held}
use Rattle.outcomes.proofs.outcome.none_held.Given as goal

abbrev pub invariant-loop-met : goal.invariant-loop-met
invariant-loop-met g l = none_held (map history_of_met l.row) ≡ none_held (map history_of_met (drop l.met-index l.row))
