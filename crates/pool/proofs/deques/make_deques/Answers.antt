use Rattle.std.proofs.Common.{◌≡◌, ◌≤◌, ◌+◌, [], length, map, sym, ap, ◌∙◌, arith}
use Rattle.std.proofs.lemmas.List.Elements.{All-nil, All-push, All-same}
use Rattle.crossbeam_deque.specs.Handles.{stealer_deque, worker_capacity, worker_deque, worker_index, worker_view}
use Rattle.deque_rule.specs.Ledgers.{all_shares, ledger}
use Rattle.pool.proofs.Pushed.{both_pushed}
use Rattle.pool.proofs.Views.{as_many}
use Rattle.pool.proofs.deques.make_deques.Goals as goal

pub loop-init : goal.loop-init
loop-init g c = record {
  deques = ap (map worker_deque) c.in_ok-owns.ensures.items ∙ sym (ap (map stealer_deque) c.in_ok-stealers.ensures.items);
  places = (c.in_ok-owns.ensures.capacity, c.in_ok-stealers.ensures.capacity);
  count = omega (arith, ap length c.in_ok-owns.ensures.items, c.in_ok-owns.owns.ok.0);
  new = All-same (λ o. worker_view o ≡ ledger all_shares [] []) _ _ c.in_ok-owns.ensures.items (All-nil (λ o. worker_view o ≡ ledger all_shares [] []));
  room = All-same (λ o. worker_index o + c.args.tasks ≤ worker_capacity o) _ _ c.in_ok-owns.ensures.items
      (All-nil (λ o. worker_index o + c.args.tasks ≤ worker_capacity o));
}

-- there are as many handles to steal by as deques
pub push_reserved-requires : goal.push_reserved-requires
push_reserved-requires g c =
    let inv = c.loop.invariant in
    let many = as_many stealer_deque worker_deque c.loop.stealers.items c.loop.owns.items inv.deques in
    omega (arith, many, inv.count, inv.places.1, c.loop-test.true, c.loop.owns.ok.0, c.loop.stealers.ok.0)

pub push_reserved-requires-in-loop : goal.push_reserved-requires-in-loop
push_reserved-requires-in-loop g c = omega (arith, c.loop.invariant.count, c.loop.invariant.places.0, c.loop-test.true)

pub loop-preserved : goal.loop-preserved
loop-preserved g c =
    let made = c.in_ok-own.ensures in
    let inv = c.loop.invariant in
    let owns = c.push_reserved-in-loop.ensures in
    let stealers = c.push_reserved.ensures in
    record {
      deques = both_pushed worker_deque stealer_deque _ _ _ _ _ _ owns.items stealers.items (sym c.in_ok-stealer.ensures.0)
          inv.deques;
      places = (
        omega (arith, owns.capacity, inv.places.0),
        omega (arith, stealers.capacity, inv.places.1),
      );
      count = let n = owns.len in let i = inv.count in omega arith;
      new = All-same (λ o. worker_view o ≡ ledger all_shares [] []) _ _ owns.items
          (All-push (λ o. worker_view o ≡ ledger all_shares [] []) c.loop.owns.items _ inv.new made.4);
      room = All-same (λ o. worker_index o + c.args.tasks ≤ worker_capacity o) _ _ owns.items
          (All-push (λ o. worker_index o + c.args.tasks ≤ worker_capacity o) c.loop.owns.items _ inv.room
          (let p = made.0.1 in let i = made.3 in let m = c.max.ensures in omega arith));
    }
