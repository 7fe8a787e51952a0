use Rattle.std.proofs.Common.{ℕ, [], ◌∷◌, ◌++◌, ap, ◌∙◌, arith}
use Rattle.crossbeam_deque.specs.Handles.{worker_view}
use Rattle.pool.proofs.Pushed.{popped_more}
use Rattle.deque_rule.proofs.Rule.{emptied, pops, takes}
use Rattle.pool.proofs.gathering.drain.Goals as goal

pub pop_as-requires-clause-fifo : goal.pop_as-requires-clause-fifo
pop_as-requires-clause-fifo g c fifo = takes (λ b. g.T.Task.number_of b.value) _ _ 1 (let p = c.loop.invariant.shares in omega arith)

pub pop_as-requires-clause-lifo : goal.pop_as-requires-clause-lifo
pop_as-requires-clause-lifo g c lifo = pops (λ b. g.T.Task.number_of b.value) _ _ (let p = c.loop.invariant.shares in omega arith)

pub pop_as-requires-clause-empty : goal.pop_as-requires-clause-empty
pop_as-requires-clause-empty g c = emptied {A = ℕ} (λ n. n) _ _

pub loop-preserved : goal.loop-preserved
loop-preserved g c =
    let is = c.in-Some-pop_as.ensures.rule in
    let f = popped_more (λ b. g.T.Task.number_of b.value) (worker_view c.loop.own) (worker_view c.pop_as.new.self) _ _ _ c.loop.tasks.items
    c.push_reserved.new.self.items is (c.push_reserved.ensures.items ∙ ap (λ l. l ++ c.in-Some-pop_as.task ∷ []) c.reserve.ensures.items) in
    record {
      shares = ap (λ v. v.shares) is ∙ c.loop.invariant.shares;
      pushed = ap (λ v. v.pushed) is ∙ c.loop.invariant.pushed;
      out = λ h. let i = c.loop.invariant.out h in let e = f h in omega arith;
    }
