use Rattle.std.proofs.Common.{◌≡◌, ◌≤◌, ◌-◌, count_by, nat_lt, slice_index, take}
use Rattle.interference.proofs.forests.higher_count.Given as goal

abbrev pub invariant-loop-w : goal.invariant-loop-w
invariant-loop-w l =
    (l.higher ≡ count_by (λ w. nat_lt l.own (slice_index l.ids (w - 1))) (take l.w-index l.row)) × (l.higher ≤ l.w-index)
