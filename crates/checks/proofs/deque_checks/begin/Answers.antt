use Rattle.std.proofs.Common.{◌≡◌, ◌-◌, [], refl, sym, ap, ◌∙◌, arith}
use Rattle.crossbeam_deque.specs.Handles.{stealer_deque, worker_deque, worker_view}
use Rattle.deque_rule.specs.Ledgers.{all_shares, ledger, shares_of}
use Rattle.deque_rule.proofs.Rule.{deals}
use Rattle.pool.proofs.Views.{as_many, carried}
use Rattle.checks.proofs.deque_checks.begin.Goals as goal

pub split_off-requires-clause-rule : goal.split_off-requires-clause-rule
split_off-requires-clause-rule c = record {
  forks = deals;
  one = λ v. refl;
}

pub make_worker_states-requires-clause-few : goal.make_worker_states-requires-clause-few
make_worker_states-requires-clause-few c =
    let made = c.in_ok-owns.owns in
    let dealt = as_many worker_deque worker_deque made.items c.deal-owns.result.items c.deal-owns.ensures.deques in
    let left = as_many worker_deque worker_deque c.deal-owns.result.items c.in_ok-owns-2.owns.items c.in_ok-owns-2.ensures.owns in
    let n = c.in_ok-owns.ensures.workers in
    omega (arith, made.ok.0, c.in_ok-owns-2.owns.ok.0)

pub make_worker_states-requires-clause-new : goal.make_worker_states-requires-clause-new
make_worker_states-requires-clause-new c =
    carried (λ o. ledger (shares_of (worker_view o) - 1) [] []) worker_view (λ v. v ≡ ledger (all_shares - 1) [] []) c.deal-owns.result.items _
    c.in_ok-owns-2.ensures.left (λ k d lt. ap (λ n. ledger (n - 1) [] []) (c.deal-owns.ensures.shares k d lt))

pub invariant_of-result : goal.invariant_of-result
invariant_of-result c =
    let made = c.in_ok-owns.owns in
    let deques = c.in_ok-owns-2.ensures.owns ∙ c.deal-owns.ensures.deques ∙ c.in_ok-owns.ensures.deques in
    let stealers = as_many worker_deque stealer_deque made.items c.in_ok-owns.stealers.items (sym c.in_ok-owns.ensures.deques) in
    let n = c.in_ok-owns.ensures.workers in
    record {
      three = omega (arith, made.ok.0, c.in_ok-owns.stealers.ok.0);
      deques = λ k d lt. c.in_ok-states.ensures.passes k d lt ∙ deques;
    }
