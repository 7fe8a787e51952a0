use Rattle.std.proofs.Common.{◌≡◌, drop}
use Rattle.std.specs.List.{find}
use Rattle.channel_plan.specs.Checked.{clashes, channels_in}
use Rattle.channel_plan.proofs.checking.clash_of.Given as goal

-- the neighbours that are left have the first clash
abbrev pub invariant-loop-w : goal.invariant-loop-w
invariant-loop-w l = find (clashes (channels_in l.table) l.v) l.w-items ≡ find (clashes (channels_in l.table) l.v) (drop l.w-index l.w-items)
