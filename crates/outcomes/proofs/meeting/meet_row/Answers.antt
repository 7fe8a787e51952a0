use Rattle.std.proofs.Common.{◌≡◌, ◌≤◌, [], length, map, sym, subst, ◌∙◌, arith, rules, map-id}
use Rattle.std.proofs.lemmas.List.{map-append}
use Rattle.std.proofs.lemmas.List.Elements.{All-push, All-same}
use Rattle.std.proofs.lemmas.Iterator.Consumers.{YieldsList-end, YieldsList-turn}
use Rattle.std.proofs.lemmas.Iterator.Adapters.{YieldsList-from_vec}
use Rattle.link_queue.specs.Ends.{held_stamped, put_stamped, taken_stamped}
use Rattle.pool.proofs.Views.{as_many}
use Rattle.outcomes.specs.Meets.{AreMet, put_of}
use Rattle.outcomes.proofs.Meetings.{err_says}
use Rattle.outcomes.proofs.MetRows.{none_met, one_met}
use Rattle.outcomes.proofs.meeting.meet_row.Goals as goal

pub returns-in_err-mets-clause-met : goal.returns-in_err-mets-clause-met
returns-in_err-mets-clause-met g c = err_says _ c.from_residual.result c.from_residual.ensures.0

pub returns-in_err-mets-clause-room : goal.returns-in_err-mets-clause-room
returns-in_err-mets-clause-room g c = err_says _ c.from_residual.result c.from_residual.ensures.0

pub loop-put-init : goal.loop-put-init
loop-put-init g c =
    let none = c.in_ok-mets.ensures in
    record {
      places = omega (arith, none.capacity, c.len.ensures);
      met = none_met c.in_ok-mets.mets.items none.items;
      room = λ capacity below. All-same (λ met. length (held_stamped met) ≤ capacity) _ [] none.items (λ k met lt. absurd (omega arith));
    }

pub next-requires : goal.next-requires
next-requires g c = tt

pub returns-in_err-meet-clause-met : goal.returns-in_err-meet-clause-met
returns-in_err-meet-clause-met g c = err_says _ c.from_residual-in_err-meet.result c.from_residual-in_err-meet.ensures.0

pub returns-in_err-meet-clause-room : goal.returns-in_err-meet-clause-room
returns-in_err-meet-clause-room g c = err_says _ c.from_residual-in_err-meet.result c.from_residual-in_err-meet.ensures.0

pub meet-requires-clause-same : goal.meet-requires-clause-same
meet-requires-clause-same g c κs within =
    let turn = YieldsList-turn (YieldsList-from_vec {s = c.into_iter-put-iterator.result} c.args.row.items (search rules) (search rules))
    c.loop-put.yielded c.loop-put.put-iterator c.loop-put.yielded_by c.next.result c.next.new.self _ c.in-Some.is c.next.ensures.steps in
    subst (λ x. (x.1.vertex ≡ x.0.vertex) × (x.1.port ≡ x.0.port)) (sym turn.1) (c.requires.same _ _ turn.0)

pub push_reserved-requires : goal.push_reserved-requires
push_reserved-requires g c =
    let turn = YieldsList-turn (YieldsList-from_vec {s = c.into_iter-put-iterator.result} c.args.row.items (search rules) (search rules))
    c.loop-put.yielded c.loop-put.put-iterator c.loop-put.yielded_by c.next.result c.next.new.self _ c.in-Some.is c.next.ensures.steps in
    let inv = c.loop-put.invariant in
    let many = as_many (λ x. put_stamped x.0.end) put_of c.loop-put.yielded c.loop-put.mets.items inv.met.puts_are in
    omega (arith, turn.0, many, inv.places, c.args.row.ok.0, c.loop-put.mets.ok.0)

pub loop-put-preserved : goal.loop-put-preserved
loop-put-preserved g c = record {
  places = omega (arith, c.push_reserved.ensures.capacity, c.loop-put.invariant.places);
  met = one_met c.loop-put.mets.items _ _ _ _ _ _ _ _ _ c.push_reserved.ensures.items
      (map-append (λ x. put_stamped x.0.end) c.loop-put.yielded _) (map-append (λ x. taken_stamped x.1.end) c.loop-put.yielded _)
      c.in_ok-meet.ensures.met c.loop-put.invariant.met;
  room = λ capacity below.
      All-same (λ met. length (held_stamped met) ≤ capacity) _ _ c.push_reserved.ensures.items
      (All-push (λ met. length (held_stamped met) ≤ capacity) c.loop-put.mets.items _ (c.loop-put.invariant.room capacity below)
      (c.in_ok-meet.ensures.room capacity below));
}

pub returns-clause-met : goal.returns-clause-met
returns-clause-met g c =
    let end = YieldsList-end (YieldsList-from_vec {s = c.into_iter-put-iterator.result} c.args.row.items (search rules) (search rules))
    c.loop-put.yielded c.loop-put.put-iterator c.loop-put.yielded_by c.next.result c.next.new.self c.in-None.is c.next.ensures.steps in
    let all = sym (map-id c.loop-put.yielded) ∙ end.0 in
    subst (λ row. AreMet c.loop-put.mets.items (map (λ x. put_stamped x.0.end) row) (map (λ x. taken_stamped x.1.end) row)) all
    c.loop-put.invariant.met

pub returns-clause-room : goal.returns-clause-room
returns-clause-room g c = c.loop-put.invariant.room
