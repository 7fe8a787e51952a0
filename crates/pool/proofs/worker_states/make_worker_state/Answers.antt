use Rattle.std.proofs.Common.{map, ap, ◌∙◌, arith}
use Rattle.deque_rule.specs.declared.ledger.Ledger.{Ledger}
use Rattle.deque_rule.specs.Ledgers.{weigh}
use Rattle.pool.proofs.worker_states.make_worker_state.Goals as goal

pub invariant_of-result : goal.invariant_of-result
invariant_of-result g c =
    let is = c.requires.new in
    let p = ap (λ (v : Ledger). v.shares) is in
    record {
      shares = let f = c.requires.few in omega arith;
      some = let f = c.requires.few in omega arith;
      out = λ h.
          let t = ap (λ (v : Ledger). weigh h v.taken) is in
          let q = ap (λ (v : Ledger). weigh h v.pushed) is in
          let n = ap (λ l. weigh h (map (λ b. g.T.Task.number_of b.value) l)) (c.in_ok-reserve_exact.ensures.items ∙ c.new-finished.ensures.items) in
          let f = c.requires.fresh h in
          omega arith;
    }
