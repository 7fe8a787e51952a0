use Rattle.std.proofs.Common.{◌≡◌, ◌<◌, length, map, refl, ap, sym, ◌∙◌, subst, arith, rules, map-id}
use Rattle.std.specs.Prelude.{get_or}
use Rattle.std.proofs.lemmas.Iterator.Consumers.{YieldsList-end, YieldsList-turn}
use Rattle.std.proofs.lemmas.Iterator.Adapters.{YieldsList-from_vec}
use Rattle.crossbeam_deque.specs.Handles.{view, worker_deque, worker_view}
use Rattle.deque_rule.specs.Deques.{deque_of}
use Rattle.deque_rule.specs.Ledgers.{shares_of}
use Rattle.pool.specs.Passes.{deques_of}
use Rattle.pool.proofs.Pushed.{both_pushed}
use Rattle.pool.proofs.Views.{as_many}
use Rattle.pool.proofs.deques.split_off.Given.{Over}
use Rattle.pool.proofs.deques.split_off.Goals.{In-Some}
use Rattle.pool.proofs.deques.split_off.Goals as goal

-- the deque of a turn
turn : (g : Over) (c : In-Some g)
    → (length c.loop-own.yielded < length c.args.owns.items) × (c.in-Some.own ≡ get_or c.args.owns.items (length c.loop-own.yielded) c.in-Some.own)
turn g c =
    YieldsList-turn (YieldsList-from_vec {s = c.into_iter-own-iterator.result} c.args.owns.items (search rules) (search rules))
    c.loop-own.yielded c.loop-own.own-iterator c.loop-own.yielded_by c.next.result c.next.new.self _ c.in-Some.is c.next.ensures.steps

pub another-requires : goal.another-requires
another-requires g c =
    let at = turn g (goal.at.another-requires g c).In-Some in
    λ items views. c.requires.rule.forks _ _ (subst (λ o. 1 < shares_of (worker_view o)) (sym at.1) (c.requires.shares _ _ at.0))
    (map (λ b. g.T.Task.number_of b.value) items) views

pub push_reserved-requires : goal.push_reserved-requires
push_reserved-requires g c =
    let inv = c.loop-own.invariant in
    let many = as_many worker_deque (λ g'. deque_of g'.pass) c.loop-own.yielded c.loop-own.passes.items inv.passes in
    omega (arith, (turn g (goal.at.push_reserved-requires g c).In-Some).0, inv.room.1, many, c.args.owns.ok.0, c.loop-own.passes.ok.0)

pub push_reserved-requires-in-loop-own : goal.push_reserved-requires-in-loop-own
push_reserved-requires-in-loop-own g c =
    let inv = c.loop-own.invariant in
    let many = as_many worker_deque worker_deque c.loop-own.yielded c.loop-own.lefts.items inv.owns in
    omega (arith, (turn g (goal.at.push_reserved-requires-in-loop-own g c).In-Some).0, inv.room.0, many, c.args.owns.ok.0, c.loop-own.lefts.ok.0)

pub loop-own-init : goal.loop-own-init
loop-own-init g c =
    let lefts = c.in_ok-lefts.ensures in
    let passes = c.in_ok-passes.ensures in
    record {
      room = (omega (arith, lefts.capacity, c.len-count.ensures), omega (arith, passes.capacity, c.len-count.ensures));
      owns = ap (map worker_deque) lefts.items;
      left = ap (map worker_view) lefts.items;
      passes = ap deques_of passes.items;
      right = ap (map (λ g'. view g'.pass)) passes.items;
    }

pub loop-own-preserved : goal.loop-own-preserved
loop-own-preserved g c =
    let inv = c.loop-own.invariant in
    let own = c.in-Some.own in
    let said = c.another.ensures in
    let pass = c.new.ensures.pass in
    let lefts = c.push_reserved-in-loop-own.ensures in
    let passes = c.push_reserved.ensures in
    record {
      room = (omega (arith, lefts.capacity, inv.room.0), omega (arith, passes.capacity, inv.room.1));
      owns = both_pushed worker_deque worker_deque _ _ c.loop-own.yielded _ _ own lefts.items refl said.same.0.0 inv.owns;
      left = both_pushed worker_view (λ o. g.M.Split.left (worker_view o)) _ _ c.loop-own.yielded _ _ own lefts.items refl said.rule.0 inv.left;
      passes = both_pushed (λ g'. deque_of g'.pass) worker_deque _ _ c.loop-own.yielded _ _ own passes.items refl
          (ap deque_of pass ∙ (λ k. (said.same.2.0 k, said.same.2.1 k))) inv.passes;
      right = both_pushed (λ g'. view g'.pass) (λ o. g.M.Split.right (worker_view o)) _ _ c.loop-own.yielded _ _ own passes.items refl
          (ap view pass ∙ said.rule.1) inv.right;
    }

pub returns : goal.returns
returns g c =
    let end = YieldsList-end (YieldsList-from_vec {s = c.into_iter-own-iterator.result} c.args.owns.items (search rules) (search rules))
    c.loop-own.yielded c.loop-own.own-iterator c.loop-own.yielded_by c.next.result c.next.new.self c.in-None.is c.next.ensures.steps in
    let all = sym (map-id c.loop-own.yielded) ∙ end.0 in
    let inv = c.loop-own.invariant in
    record {
      owns = inv.owns ∙ ap (map worker_deque) all;
      left = inv.left ∙ ap (map (λ o. g.M.Split.left (worker_view o))) all;
      passes = inv.passes ∙ ap (map worker_deque) all;
      right = inv.right ∙ ap (map (λ o. g.M.Split.right (worker_view o))) all;
    }
