use Rattle.std.proofs.Common.{◌≡◌, ◌-◌, ◌≤◌, [], Some, map, refl, sym, ap, subst, ◌∙◌, arith, rules, map-id, vec_capacity, vec_len}
use Rattle.std.proofs.lemmas.List.{length_push}
use Rattle.std.proofs.lemmas.List.Elements.{All-pop, All-push, All-same}
use Rattle.std.proofs.lemmas.Iterator.Consumers.{YieldsList-end, YieldsList-turn}
use Rattle.std.proofs.lemmas.Iterator.Adapters.{YieldsList-from_vec}
use Rattle.crossbeam_deque.specs.Handles.{view, worker_deque, worker_view}
use Rattle.deque_rule.specs.Deques.{deque_of}
use Rattle.deque_rule.specs.Ledgers.{AreOut, all_shares, ledger}
use Rattle.pool.specs.Passes.{deques_of}
use Rattle.pool.proofs.Pushed.{both_pushed}
use Rattle.pool.proofs.Views.{as_many}
use Rattle.pool.proofs.worker_states.make_worker_states.Goals as goal

-- the row that was popped is of all deques
pub make_worker_state-requires-clause-few : goal.make_worker_state-requires-clause-few
make_worker_state-requires-clause-few g c =
    let row = c.in-Some-pop.row in
    let theirs = All-pop (λ row. deques_of row.items ≡ map worker_deque c.args.owns.items) _ c.pop.new.self.items (Some row)
    c.in-Some-pop.ensures.items c.loop-own.invariant.theirs in
    let many = as_many worker_deque (λ g'. deque_of g'.pass) c.args.owns.items row.items theirs.1 in
    let f = c.requires.few in
    omega (arith, row.ok.0, c.args.owns.ok.0)

pub make_worker_state-requires-clause-new : goal.make_worker_state-requires-clause-new
make_worker_state-requires-clause-new g c =
    let row = c.in-Some-pop.row in
    let theirs = All-pop (λ row. deques_of row.items ≡ map worker_deque c.args.owns.items) _ c.pop.new.self.items (Some row)
    c.in-Some-pop.ensures.items c.loop-own.invariant.theirs in
    let many = as_many worker_deque (λ g'. deque_of g'.pass) c.args.owns.items row.items theirs.1 in
    let turn = YieldsList-turn (YieldsList-from_vec {s = c.into_iter-own-iterator.result} c.in_ok-owns.owns.items (search rules) (search rules))
    c.loop-own.yielded c.loop-own.own-iterator c.loop-own.yielded_by c.next.result c.next.new.self c.in-Some.own c.in-Some.is c.next.ensures.steps in
    let new = subst (λ o. worker_view o ≡ ledger (all_shares - 1 - vec_len c.args.owns) [] []) (sym turn.1) (c.in_ok-owns.ensures.left _ _ turn.0) in
    new ∙ ap (λ k. ledger (all_shares - 1 - k) [] []) (omega (arith, row.ok.0, c.args.owns.ok.0))

pub make_worker_state-requires-clause-fresh : goal.make_worker_state-requires-clause-fresh
make_worker_state-requires-clause-fresh g c =
    (All-pop (λ row. AreOut (map (λ g'. view g'.pass) row.items) []) _ c.pop.new.self.items (Some c.in-Some-pop.row) c.in-Some-pop.ensures.items
    c.loop-own.invariant.fresh).1

pub push_reserved-requires : goal.push_reserved-requires
push_reserved-requires g c =
    let turn = YieldsList-turn (YieldsList-from_vec {s = c.into_iter-own-iterator.result} c.in_ok-owns.owns.items (search rules) (search rules))
    c.loop-own.yielded c.loop-own.own-iterator c.loop-own.yielded_by c.next.result c.next.new.self c.in-Some.own c.in-Some.is c.next.ensures.steps in
    let same = as_many worker_deque worker_deque c.args.owns.items c.in_ok-owns.owns.items c.in_ok-owns.ensures.owns in
    let many = as_many worker_deque (λ d. worker_deque d.own) c.loop-own.yielded c.loop-own.all.items c.loop-own.invariant.owns in
    omega (arith, turn.0, same, many, c.loop-own.invariant.room, c.args.owns.ok.0, c.in_ok-owns.owns.ok.0, c.loop-own.all.ok.0)

pub loop-own-preserved : goal.loop-own-preserved
loop-own-preserved g c =
    let inv = c.loop-own.invariant in
    let row = c.in-Some-pop.row in
    let said = c.in_ok-make_worker_state.ensures in
    let more = c.push_reserved.ensures in
    let theirs = All-pop (λ row. deques_of row.items ≡ map worker_deque c.args.owns.items) _ c.pop.new.self.items (Some row)
    c.in-Some-pop.ensures.items inv.theirs in
    record {
      owns = both_pushed (λ d. worker_deque d.own) worker_deque c.loop-own.all.items _ c.loop-own.yielded _ _ c.in-Some.own more.items refl
          (ap worker_deque said.own) inv.owns;
      passes = All-same (λ d. deques_of d.passes.items ≡ map worker_deque c.args.owns.items) _ _ more.items
          (All-push (λ d. deques_of d.passes.items ≡ map worker_deque c.args.owns.items) c.loop-own.all.items _ inv.passes
          (ap (λ gs. deques_of gs.items) said.passes ∙ theirs.1));
      places = All-same (λ d. c.args.tasks ≤ vec_capacity d.finished) _ _ more.items
          (All-push (λ d. c.args.tasks ≤ vec_capacity d.finished) c.loop-own.all.items _ inv.places said.places);
      room = omega (arith, more.capacity, inv.room);
      rows = let l = c.in-Some-pop.ensures.len in let i = inv.rows in omega (arith, length_push c.loop-own.yielded c.in-Some.own);
      theirs = theirs.0;
      fresh = (All-pop (λ row. AreOut (map (λ g'. view g'.pass) row.items) []) _ c.pop.new.self.items (Some row) c.in-Some-pop.ensures.items inv.fresh).0;
    }

pub unreachable-requires : goal.unreachable-requires
unreachable-requires g c =
    let turn = YieldsList-turn (YieldsList-from_vec {s = c.into_iter-own-iterator.result} c.in_ok-owns.owns.items (search rules) (search rules))
    c.loop-own.yielded c.loop-own.own-iterator c.loop-own.yielded_by c.next.result c.next.new.self c.in-Some.own c.in-Some.is c.next.ensures.steps in
    let many = as_many worker_deque worker_deque c.args.owns.items c.in_ok-owns.owns.items c.in_ok-owns.ensures.owns in
    let none = c.in_default.ensures.cases.0 in
    let i = c.loop-own.invariant.rows in
    omega (arith, turn.0, c.args.owns.ok.0, c.loop-own.rows.ok.0)

-- at the end each deque has a state
pub returns-clause-owns : goal.returns-clause-owns
returns-clause-owns g c =
    let end = YieldsList-end (YieldsList-from_vec {s = c.into_iter-own-iterator.result} c.in_ok-owns.owns.items (search rules) (search rules))
    c.loop-own.yielded c.loop-own.own-iterator c.loop-own.yielded_by c.next.result c.next.new.self c.in-None.is c.next.ensures.steps in
    c.loop-own.invariant.owns ∙ ap (map worker_deque) (sym (map-id c.loop-own.yielded) ∙ end.0) ∙ c.in_ok-owns.ensures.owns
