use Rattle.std.proofs.Common.{arith}
use Rattle.crossbeam_deque.specs.Handles.{worker_deque}
use Rattle.pool.specs.Passes.{deques_of}
use Rattle.pool.proofs.Joined.{kept_images}
use Rattle.pool.proofs.threads.join_all.Goals as goal

pub returns-in-Ok-clause-owns : goal.returns-in-Ok-clause-owns
returns-in-Ok-clause-owns g c =
    kept_images c.args.children.items _ _ _ (λ p. p.0.value) (λ d. worker_deque d.own) (λ d. worker_deque d.own) (λ p r k. k.0)
    (omega (arith, c.args.children.ok.0)) (omega (arith, c.args.children.ok.0, c.in-Ok.done.ok.0, c.in-Ok.ensures.len)) c.in-Ok.ensures.each

pub returns-in-Ok-clause-passes : goal.returns-in-Ok-clause-passes
returns-in-Ok-clause-passes g c =
    kept_images c.args.children.items _ _ _ (λ p. p.0.value) (λ d. deques_of d.passes.items)
    (λ d. deques_of d.passes.items) (λ p r k. k.1)
    (omega (arith, c.args.children.ok.0)) (omega (arith, c.args.children.ok.0, c.in-Ok.done.ok.0, c.in-Ok.ensures.len)) c.in-Ok.ensures.each
