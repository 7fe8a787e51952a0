use Rattle.std.proofs.Common.{◌≡◌, take}
use Rattle.channel_plan.specs.Checked.{greatest_channel}
use Rattle.channel_plan.proofs.checking.greatest.Given as goal

abbrev pub invariant-loop-row : goal.invariant-loop-row
invariant-loop-row l = l.most ≡ greatest_channel (take l.row-index l.rows)
