use Rattle.std.proofs.Common.{◌<◌, length, arith}
use Rattle.crossbeam_deque.specs.Handles.{stealer_deque, view, worker_view}
use Rattle.deque_rule.specs.Deques.{deque_of}
use Rattle.pool.proofs.Out.{stolen}
use Rattle.pool.proofs.Views.{as_many, same_at, map_change}
use Rattle.pool.proofs.worker_state.WorkerState.steal.Goals as goal

pub steal-requires : goal.steal-requires
steal-requires g c =
    let old = c.args.self.now in
    let stealers = c.args.stealers.now in
    let lt : c.args.from < length stealers = c.requires.from in
    record {
      deque = same_at (λ g'. deque_of g'.pass) stealer_deque old.passes.items stealers c.args.from _ _ c.requires.deques lt
          c.index_mut.ensures.value c.index-stealers-from.is;
    }

pub invariant_of-self : goal.invariant_of-self
invariant_of-self g c =
    let old = c.args.self.now in
    let stealers = c.args.stealers.now in
    let many = as_many stealer_deque (λ g'. deque_of g'.pass) stealers old.passes.items c.requires.deques in
    let lt : c.args.from < length old.passes.items = (let q = c.requires.from in omega (arith, many)) in
    record {
      shares = old.shares;
      some = old.some;
      out = stolen (λ b. g.T.Task.number_of b.value) (λ g'. view g'.pass) old.passes.items c.args.from _ _ c.steal.result (worker_view old.own) _ _ lt
          c.index_mut.ensures.value c.requires.empty c.steal.ensures.none c.steal.ensures.some old.out;
    }

pub returns-clause-deques : goal.returns-clause-deques
returns-clause-deques g c =
    let old = c.args.self.now in
    let stealers = c.args.stealers.now in
    let many = as_many stealer_deque (λ g'. deque_of g'.pass) stealers old.passes.items c.requires.deques in
    let lt : c.args.from < length old.passes.items = (let q = c.requires.from in omega (arith, many)) in
    map_change (λ g'. deque_of g'.pass) old.passes.items c.args.from _ _ lt c.index_mut.ensures.value c.steal.ensures.deque
