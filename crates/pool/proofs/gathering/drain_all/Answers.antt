use Rattle.std.proofs.Common.{arith}
use Rattle.crossbeam_deque.specs.Handles.{worker_view}
use Rattle.deque_rule.specs.Ledgers.{weigh}
use Rattle.pool.proofs.Pushed.{total_more}
use Rattle.pool.proofs.gathering.drain_all.Goals as goal

pub loop-own-preserved : goal.loop-own-preserved
loop-own-preserved g c = record {
  out = λ h.
      let i = c.loop-own.invariant.out h in
      let d = c.in_ok-all.ensures.tasks h in
      let t = total_more (λ v. weigh h v.taken) worker_view c.loop-own.yielded c.in-Some.own in
      let p = total_more (λ v. weigh h v.pushed) worker_view c.loop-own.yielded c.in-Some.own in
      omega arith;
}
