use Rattle.std.proofs.Common.{◌≡◌, ◌<◌, length, map, sym, ap, subst, ◌∙◌, arith, rules, map-id}
use Rattle.std.specs.Prelude.{get_or}
use Rattle.std.proofs.lemmas.List.{length-map, length_push}
use Rattle.std.proofs.lemmas.Iterator.Consumers.{YieldsList-end, YieldsList-turn}
use Rattle.std.proofs.lemmas.Iterator.Adapters.{YieldsList-from_vec}
use Rattle.crossbeam_deque.specs.Handles.{stealer_deque}
use Rattle.pool.specs.Passes.{deques_of}
use Rattle.pool.proofs.Pushed.{image_pushed}
use Rattle.pool.proofs.threads.start_all.Given.{Over}
use Rattle.pool.proofs.threads.start_all.Goals.{In-Some}
use Rattle.pool.proofs.threads.start_all.Goals as goal

-- the state of a turn is that of its worker
turn : (g : Over) (c : In-Some g)
    → (length c.loop-state.yielded < length c.args.states.items) × (c.in-Some.state ≡ get_or c.args.states.items (length c.loop-state.yielded) c.in-Some.state)
turn g c =
    YieldsList-turn (YieldsList-from_vec {s = c.into_iter-state-iterator.result} c.args.states.items (search rules) (search rules))
    c.loop-state.yielded c.loop-state.state-iterator c.loop-state.yielded_by c.next.result c.next.new.self c.in-Some.state c.in-Some.is c.next.ensures.steps

pub start-requires-clause-worker : goal.start-requires-clause-worker
start-requires-clause-worker g c =
    let left = (turn g (goal.at.start-requires-clause-worker g c).In-Some).0 in
    omega (arith, left, c.loop-state.invariant.worker, c.requires.workers, c.args.states.ok.0)

pub start-requires-clause-deques : goal.start-requires-clause-deques
start-requires-clause-deques g c κ b =
    let at = turn g (goal.at.start-requires-clause-deques g c).In-Some in
    subst (λ d. deques_of d.passes.items ≡ map stealer_deque c.args.stealers.now) (sym at.1) (c.requires.deques _ _ at.0)

pub push_reserved-requires : goal.push_reserved-requires
push_reserved-requires g c =
    let inv = c.loop-state.invariant in
    let left = (turn g (goal.at.push_reserved-requires g c).In-Some).0 in
    let made = sym (length-map c.loop-state.children.items (λ h. h.promise.0.value)) ∙ ap (λ l. length l) inv.states in
    omega (arith, left, made, inv.room, c.args.states.ok.0, c.loop-state.children.ok.0)

pub overflow_add-worker : goal.overflow_add-worker
overflow_add-worker g c =
    let left = (turn g (goal.at.overflow_add-worker g c).In-Some).0 in
    omega (arith, left, c.loop-state.invariant.worker, c.requires.few, c.args.states.ok.0)

pub loop-state-preserved : goal.loop-state-preserved
loop-state-preserved g c = record {
  worker = let w = c.loop-state.invariant.worker in omega (arith, length_push c.loop-state.yielded c.in-Some.state);
  room = omega (arith, c.push_reserved.ensures.capacity, c.loop-state.invariant.room);
  states = image_pushed (λ h. h.promise.0.value) c.loop-state.children.items _ c.loop-state.yielded _ c.in-Some.state
      c.push_reserved.ensures.items c.in_ok-start.ensures.state c.loop-state.invariant.states;
}

pub returns-clause-states : goal.returns-clause-states
returns-clause-states g c =
    let end = YieldsList-end (YieldsList-from_vec {s = c.into_iter-state-iterator.result} c.args.states.items (search rules) (search rules))
    c.loop-state.yielded c.loop-state.state-iterator c.loop-state.yielded_by c.next.result c.next.new.self c.in-None.is c.next.ensures.steps in
    c.loop-state.invariant.states ∙ sym (map-id c.loop-state.yielded) ∙ end.0
