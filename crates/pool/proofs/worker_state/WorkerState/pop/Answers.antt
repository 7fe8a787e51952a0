use Rattle.std.proofs.Common.{arith}
use Rattle.crossbeam_deque.specs.Handles.{worker_view}
use Rattle.deque_rule.specs.Ledgers.{KnowsEmpty}
use Rattle.pool.proofs.Out.{popped}
use Rattle.deque_rule.proofs.Rule.{pops, takes}
use Rattle.pool.proofs.worker_state.WorkerState.pop.Goals as goal

pub pop_as-requires-clause-fifo : goal.pop_as-requires-clause-fifo
pop_as-requires-clause-fifo g c fifo = takes (λ b. g.T.Task.number_of b.value) _ _ 1 c.args.self.now.some

pub pop_as-requires-clause-lifo : goal.pop_as-requires-clause-lifo
pop_as-requires-clause-lifo g c lifo = pops (λ b. g.T.Task.number_of b.value) _ _ c.args.self.now.some

pub invariant_of-self : goal.invariant_of-self
invariant_of-self g c =
    let old = c.args.self.now in
    let p = popped (λ b. g.T.Task.number_of b.value) (KnowsEmpty (worker_view old.own)) c.pop_as.result _ _ _ _ _
    c.requires.empty c.pop_as.ensures.rule old.out in
    record {
      shares = let s = old.shares in let q = p.0 in omega arith;
      some = let s = old.some in let q = p.0 in omega arith;
      out = p.1;
    }
