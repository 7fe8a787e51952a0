use Rattle.std.proofs.Common.{◌≡◌, drop, is_none}
use Rattle.std.specs.List.{find}
use Rattle.interference.specs.Net.{vertices}
use Rattle.channel_plan.specs.Checked.{first_missing, channels_in}
use Rattle.channel_plan.proofs.checking.missing.Given as goal

-- the vertices that are left have the first without a channel
abbrev pub invariant-loop-i : goal.invariant-loop-i
invariant-loop-i l = first_missing l.net (channels_in l.table) ≡ find (λ v. is_none (channels_in l.table v)) (drop l.i (vertices l.net))
