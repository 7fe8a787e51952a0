use Rattle.std.proofs.Common.{◌≡◌, ◌++◌, take}
use Rattle.channel_plan.specs.PlanText.{rows_from}
use Rattle.channel_plan.proofs.writing.push_rows.Given as goal

abbrev pub invariant-loop-index : goal.invariant-loop-index
invariant-loop-index l = l.text.items ≡ l.fn.text.items ++ rows_from 1 (take l.index l.colours)
