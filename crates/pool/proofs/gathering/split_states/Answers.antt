-- There is room for what each worker handed back; at the end every worker's deque is there.
use Rattle.std.proofs.Common.{◌<◌, length, map, map-id, refl, sym, ap, ◌∙◌, arith, rules}
use Rattle.std.proofs.lemmas.Iterator.Adapters.{YieldsList-from_vec}
use Rattle.std.proofs.lemmas.Iterator.Consumers.{YieldsList-end, YieldsList-turn}
use Rattle.crossbeam_deque.specs.Handles.{view, worker_deque, worker_view}
use Rattle.deque_rule.specs.Ledgers.{in_rows, pushed_by, shares_of, taken_by, weigh}
use Rattle.pool.specs.Passes.{deques_of}
use Rattle.pool.proofs.Pushed.{both_pushed, in_rows_more, total_more}
use Rattle.pool.proofs.Views.{as_many}
use Rattle.pool.proofs.gathering.split_states.Given.{Over}
use Rattle.pool.proofs.gathering.split_states.Goals.{In-Some}
use Rattle.pool.proofs.gathering.split_states.Goals as goal

left : (g : Over) (c : In-Some g) → length c.loop-state.yielded < length c.args.done.items
left g c =
    (YieldsList-turn (YieldsList-from_vec {s = c.into_iter-state-iterator.result} c.args.done.items (search rules) (search rules))
    c.loop-state.yielded c.loop-state.state-iterator c.loop-state.yielded_by c.next.result c.next.new.self c.in-Some.state c.in-Some.is
    c.next.ensures.steps).0

pub push_reserved-requires : goal.push_reserved-requires
push_reserved-requires g c =
    let inv = c.loop-state.invariant in
    let many = as_many (λ d. worker_deque d.own) worker_deque c.loop-state.yielded c.loop-state.owns.items inv.owns in
    omega (arith, left g (goal.at.push_reserved-requires g c).In-Some, inv.room.0, many, c.args.done.ok.0, c.loop-state.owns.ok.0)

pub push_reserved-requires-in-loop-state : goal.push_reserved-requires-in-loop-state
push_reserved-requires-in-loop-state g c =
    let inv = c.loop-state.invariant in
    let many = as_many (λ d. deques_of d.passes.items) (λ row. deques_of row.items)
    c.loop-state.yielded c.loop-state.rows.items inv.rows in
    omega (arith, left g (goal.at.push_reserved-requires-in-loop-state g c).In-Some, inv.room.1, many, c.args.done.ok.0, c.loop-state.rows.ok.0)

pub loop-state-init : goal.loop-state-init
loop-state-init g c =
    let owns = c.in_ok-owns.ensures.items in
    let rows = c.in_ok-rows.ensures.items in
    record {
      room = (omega (arith, c.in_ok-owns.ensures.capacity, c.len-count.ensures), omega (arith, c.in_ok-rows.ensures.capacity, c.len-count.ensures));
      owns = ap (map worker_deque) owns;
      rows = ap (map (λ row. deques_of row.items)) rows;
      shares = ap (map (λ o. shares_of (worker_view o))) owns;
      out = λ h.
          let t = ap (λ os. taken_by h (map worker_view os)) owns in
          let p = ap (λ os. pushed_by h (map worker_view os)) owns in
          let rt = ap (λ rs. in_rows (taken_by h) (map (λ row. map (λ g'. view g'.pass) row.items) rs)) rows in
          let rp = ap (λ rs. in_rows (pushed_by h) (map (λ row. map (λ g'. view g'.pass) row.items) rs)) rows in
          let w = ap (λ ts. weigh h (map (λ b. g.T.Task.number_of b.value) ts)) c.new-tasks.ensures.items in
          omega arith;
    }

pub loop-state-preserved : goal.loop-state-preserved
loop-state-preserved g c =
    let inv = c.loop-state.invariant in
    let state = c.in-Some.state in
    let owns = c.push_reserved.ensures.items in
    let rows = c.push_reserved-in-loop-state.ensures.items in
    record {
      room = (omega (arith, c.push_reserved.ensures.capacity, inv.room.0), omega (arith, c.push_reserved-in-loop-state.ensures.capacity, inv.room.1));
      owns = both_pushed worker_deque (λ d. worker_deque d.own) _ _ c.loop-state.yielded _ _ state owns refl
          refl inv.owns;
      rows = both_pushed (λ row. deques_of row.items) (λ d. deques_of d.passes.items) _ _
          c.loop-state.yielded _ _ state rows refl refl inv.rows;
      shares = both_pushed (λ o. shares_of (worker_view o)) (λ d. shares_of (worker_view d.own)) _ _ c.loop-state.yielded _ _ state owns refl
          refl inv.shares;
      out = λ h.
          let before = inv.out h in
          let tasks = c.in_ok-tasks.ensures.tasks h in
          let out = state.out h in
          let t = ap (λ os. taken_by h (map worker_view os)) owns ∙ total_more (λ v. weigh h v.taken) worker_view c.loop-state.owns.items state.own in
          let p = ap (λ os. pushed_by h (map worker_view os)) owns ∙ total_more (λ v. weigh h v.pushed) worker_view c.loop-state.owns.items state.own in
          let rt = ap (λ rs. in_rows (taken_by h) (map (λ row. map (λ g'. view g'.pass) row.items) rs)) rows
          ∙ in_rows_more (taken_by h) (λ row. map (λ g'. view g'.pass) row.items) c.loop-state.rows.items state.passes in
          let rp = ap (λ rs. in_rows (pushed_by h) (map (λ row. map (λ g'. view g'.pass) row.items) rs)) rows
          ∙ in_rows_more (pushed_by h) (λ row. map (λ g'. view g'.pass) row.items) c.loop-state.rows.items state.passes in
          omega arith;
    }

pub returns : goal.returns
returns g c =
    let end = YieldsList-end (YieldsList-from_vec {s = c.into_iter-state-iterator.result} c.args.done.items (search rules) (search rules))
    c.loop-state.yielded c.loop-state.state-iterator c.loop-state.yielded_by c.next.result c.next.new.self c.in-None.is c.next.ensures.steps in
    let all = sym (map-id c.loop-state.yielded) ∙ end.0 in
    let inv = c.loop-state.invariant in
    record {
      owns = inv.owns ∙ ap (map (λ d. worker_deque d.own)) all;
      rows = inv.rows ∙ ap (map (λ d. deques_of d.passes.items)) all;
      shares = inv.shares ∙ ap (map (λ d. shares_of (worker_view d.own))) all;
      out = inv.out;
    }
