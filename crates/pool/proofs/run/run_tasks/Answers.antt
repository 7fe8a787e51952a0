use Rattle.std.proofs.Common.{◌≡◌, ◌-◌, [], length, map, refl, sym, ap, subst, ◌∙◌, arith, vec_len}
use Rattle.std.specs.List.{range_with_len}
use Rattle.crossbeam_deque.specs.Handles.{stealer_deque, view, worker_deque, worker_view}
use Rattle.deque_rule.specs.Deques.{deque_of}
use Rattle.deque_rule.specs.Ledgers.{AreSame, all_shares, ledger, shares_of}
use Rattle.pool.proofs.Holds.{dealt_on}
use Rattle.deque_rule.proofs.Rule.{deals}
use Rattle.pool.specs.Passes.{deques_of}
use Rattle.pool.proofs.Views.{as_many, carried}
use Rattle.pool.proofs.run.run_tasks.Goals as goal

pub deal-owns-requires-clause-room : goal.deal-owns-requires-clause-room
deal-owns-requires-clause-room g c k d lt =
    let room = c.in_ok-owns.ensures.room k d lt in
    let count = c.len-count.ensures in
    omega arith

pub split_off-requires-clause-rule : goal.split_off-requires-clause-rule
split_off-requires-clause-rule g c = record {
  forks = deals;
  one = λ v. refl;
}

pub split_off-requires-clause-shares : goal.split_off-requires-clause-shares
split_off-requires-clause-shares g c k d lt = let s = c.deal-owns.ensures.shares k d lt in omega arith

pub make_worker_states-requires-clause-few : goal.make_worker_states-requires-clause-few
make_worker_states-requires-clause-few g c =
    let made = c.in_ok-owns.owns in
    let dealt = as_many worker_deque worker_deque made.items c.deal-owns.result.items c.deal-owns.ensures.deques in
    let left = as_many worker_deque worker_deque c.deal-owns.result.items c.in_ok-owns-2.owns.items c.in_ok-owns-2.ensures.owns in
    let n = c.in_ok-owns.ensures.workers in
    let few = c.requires.workers.1 in
    omega (arith, made.ok.0, c.in_ok-owns-2.owns.ok.0)

pub make_worker_states-requires-clause-new : goal.make_worker_states-requires-clause-new
make_worker_states-requires-clause-new g c =
    carried (λ o. ledger (shares_of (worker_view o) - 1) [] []) worker_view (λ v. v ≡ ledger (all_shares - 1) [] []) c.deal-owns.result.items _
    c.in_ok-owns-2.ensures.left (λ k d lt. ap (λ n. ledger (n - 1) [] []) (c.deal-owns.ensures.shares k d lt))

-- the threads begin with a state for each handle to steal by
pub in_threads-requires-clause-few : goal.in_threads-requires-clause-few
in_threads-requires-clause-few g c κs within =
    let made = c.in_ok-owns.owns in
    let deques = c.in_ok-owns-2.ensures.owns ∙ c.deal-owns.ensures.deques ∙ c.in_ok-owns.ensures.deques in
    let states = as_many stealer_deque (λ d. worker_deque d.own) c.in_ok-owns.stealers.items c.in_ok-states.states.items
    (c.in_ok-states.ensures.owns ∙ deques) in
    let stealers = as_many worker_deque stealer_deque made.items c.in_ok-owns.stealers.items (sym c.in_ok-owns.ensures.deques) in
    let n = c.in_ok-owns.ensures.workers in
    let few = c.requires.workers.1 in
    omega (arith, made.ok.0, c.in_ok-states.states.ok.0)

pub in_threads-requires-clause-workers : goal.in_threads-requires-clause-workers
in_threads-requires-clause-workers g c κs within =
    let deques = c.in_ok-owns-2.ensures.owns ∙ c.deal-owns.ensures.deques ∙ c.in_ok-owns.ensures.deques in
    let states = as_many stealer_deque (λ d. worker_deque d.own) c.in_ok-owns.stealers.items c.in_ok-states.states.items
    (c.in_ok-states.ensures.owns ∙ deques) in
    omega (arith, c.in_ok-owns.stealers.ok.0, c.in_ok-states.states.ok.0, ap (λ l. length l) c.as_slice.ensures.value)

pub in_threads-requires-clause-deques : goal.in_threads-requires-clause-deques
in_threads-requires-clause-deques g c κs within k d lt =
    let deques = c.in_ok-owns-2.ensures.owns ∙ c.deal-owns.ensures.deques ∙ c.in_ok-owns.ensures.deques in
    c.in_ok-states.ensures.passes k d lt ∙ deques ∙ ap (map stealer_deque) (sym c.as_slice.ensures.value)

pub gather-requires-clause-deques : goal.gather-requires-clause-deques
gather-requires-clause-deques g c =
    c.in_ok-owns-2.ensures.passes ∙ sym c.in_ok-owns-2.ensures.owns ∙ sym c.in_ok-states.ensures.owns ∙ sym c.in_ok-done.ensures.owns

pub gather-requires-clause-passes : goal.gather-requires-clause-passes
gather-requires-clause-passes g c =
    carried (λ d. deques_of d.passes.items) (λ d. deques_of d.passes.items)
    (λ ids. ids ≡ deques_of c.in_ok-owns-2.dealt.items) c.in_ok-states.states.items _ c.in_ok-done.ensures.passes
    (λ k d lt. c.in_ok-states.ensures.passes k d lt ∙ c.in_ok-owns-2.ensures.owns ∙ sym c.in_ok-owns-2.ensures.passes)

pub gather-requires-clause-few : goal.gather-requires-clause-few
gather-requires-clause-few g c =
    let made = c.in_ok-owns.owns in
    let dealt = as_many worker_deque worker_deque made.items c.deal-owns.result.items c.deal-owns.ensures.deques in
    let many = as_many worker_deque (λ g'. deque_of g'.pass) c.deal-owns.result.items c.in_ok-owns-2.dealt.items c.in_ok-owns-2.ensures.passes in
    let n = c.in_ok-owns.ensures.workers in
    let few = c.requires.workers.1 in
    omega (arith, made.ok.0, c.in_ok-owns-2.dealt.ok.0)

-- what was dealt are the numbers below the count
pub gather-requires-clause-dealt : goal.gather-requires-clause-dealt
gather-requires-clause-dealt g c =
    let tasks = c.args.tasks in
    let count = c.len-count.ensures in
    let room = vec_len c.in_ok-places.places.slots in
    let places = c.in_ok-places.ensures.count in
    let as_said = subst (λ n. AreSame (map (λ b. g.T.Task.number_of b.value) tasks.items) (range_with_len 0 n)) (omega arith) c.requires.numbers in
    dealt_on worker_view (λ g'. view g'.pass) c.deal-owns.result.items c.in_ok-owns-2.dealt.items (map (λ b. g.T.Task.number_of b.value) tasks.items)
    (range_with_len 0 room) c.in_ok-owns-2.ensures.right as_said c.deal-owns.ensures.dealt

-- they come back in the order of their numbers
pub returns : goal.returns
returns g c =
    let count = c.len-count.ensures in
    let places = c.in_ok-places.ensures.count in
    record { order = c.in_ok-gather.ensures.order ∙ ap (range_with_len 0) (omega arith) }
