use Rattle.std.proofs.Common.{◌≡◌, drop}
use Rattle.interference.specs.Net.{vertices}
use Rattle.channel_plan.specs.Checked.{clash_among, first_clash, channels_in}
use Rattle.channel_plan.proofs.checking.clash.Given as goal

-- the vertices that are left have the first clash
abbrev pub invariant-loop-i : goal.invariant-loop-i
invariant-loop-i l = first_clash l.net (channels_in l.table) ≡ clash_among l.net (channels_in l.table) (drop l.i (vertices l.net))
