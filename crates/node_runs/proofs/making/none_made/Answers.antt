use Rattle.std.proofs.Common.{◌≡◌, ◌-◌, [], arith}
use Rattle.node_runs.proofs.Growth.{all_more, none_in}
use Rattle.node_runs.proofs.making.none_made.Goals as goal

pub loop-v-preserved : goal.loop-v-preserved
loop-v-preserved g c = record {
  room = omega (arith, c.push_reserved.ensures.capacity, c.loop-v.invariant.room);
  count = omega (arith, c.push_reserved.ensures.len, c.loop-v.invariant.count);
  empty = all_more (λ row. row.items ≡ []) c.loop-v.ends.items _ _ c.push_reserved.ensures.items c.loop-v.invariant.empty c.in_ok-with_capacity.ensures.items;
}

pub returns-clause-rows : goal.returns-clause-rows
returns-clause-rows g c = λ u. none_in (λ row. row.items) c.loop-v.ends.items (u - 1) c.loop-v.invariant.empty
