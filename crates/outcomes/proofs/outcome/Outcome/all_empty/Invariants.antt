use Rattle.std.proofs.Common.{◌≡◌, drop, map}
use Rattle.outcomes.specs.Meets.{history_of_met}
use Rattle.outcomes.specs.Outcome.{all_empty}
use Rattle.outcomes.proofs.outcome.Outcome.all_empty.Given as goal

abbrev pub invariant-loop-row : goal.invariant-loop-row
invariant-loop-row g l = all_empty (map (λ row. map history_of_met row.items) l.row-items)
    ≡ all_empty (map (λ row. map history_of_met row.items) (drop l.row-index l.row-items))
