use Rattle.std.proofs.Common.{◌≡◌, ◌≤◌, filter, nat_lt, take}
use Rattle.forests.proofs.numbering.gather_higher.Given as goal

abbrev pub invariant-loop-id : goal.invariant-loop-id
invariant-loop-id l = (l.count ≤ l.id-index) × (take l.count l.higher ≡ filter (nat_lt l.own) (take l.id-index l.ids))
