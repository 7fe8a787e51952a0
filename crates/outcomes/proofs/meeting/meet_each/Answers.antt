use Rattle.std.proofs.Common.{◌≡◌, ◌≤◌, ℕ, length, map, sym, ap, subst, ◌∙◌, arith, rules, map-id}
use Rattle.std.specs.Prelude.{All}
use Rattle.std.proofs.lemmas.List.{length-map, map-append}
use Rattle.std.proofs.lemmas.List.Elements.{All-push, All-same}
use Rattle.std.proofs.lemmas.Iterator.Consumers.{YieldsList-end, YieldsList-turn}
use Rattle.std.proofs.lemmas.Iterator.Adapters.{YieldsList-from_vec}
use Rattle.link_queue.specs.Ends.{held_stamped, put_stamped, taken_stamped}
use Rattle.outcomes.specs.Meets.{RowsAreMet, put_of}
use Rattle.pool.proofs.Views.{as_many}
use Rattle.outcomes.proofs.Meetings.{err_says}
use Rattle.outcomes.proofs.MetRows.{one_row_met}
use Rattle.outcomes.proofs.meeting.meet_each.Goals as goal

pub returns-in_err-all-clause-met : goal.returns-in_err-all-clause-met
returns-in_err-all-clause-met g c = err_says _ c.from_residual.result c.from_residual.ensures.0

pub returns-in_err-all-clause-room : goal.returns-in_err-all-clause-room
returns-in_err-all-clause-room g c = err_says _ c.from_residual.result c.from_residual.ensures.0

pub next-requires : goal.next-requires
next-requires g c = tt

pub returns-in_err-meet_ends-clause-met : goal.returns-in_err-meet_ends-clause-met
returns-in_err-meet_ends-clause-met g c = err_says _ c.from_residual-in_err-meet_ends.result c.from_residual-in_err-meet_ends.ensures.0

pub returns-in_err-meet_ends-clause-room : goal.returns-in_err-meet_ends-clause-room
returns-in_err-meet_ends-clause-room g c = err_says _ c.from_residual-in_err-meet_ends.result c.from_residual-in_err-meet_ends.ensures.0

pub meet_ends-requires-clause-takes : goal.meet_ends-requires-clause-takes
meet_ends-requires-clause-takes g c κs within =
    let turn = YieldsList-turn (YieldsList-from_vec {s = c.into_iter-puts-iterator.result} c.args.rows.items (search rules) (search rules))
    c.loop-puts.yielded c.loop-puts.puts-iterator c.loop-puts.yielded_by c.next.result c.next.new.self _ c.in-Some.is c.next.ensures.steps in
    subst (λ x. map {B = ℕ × ℕ} (λ e. (e.vertex, e.port)) x.1.items ≡ map {B = ℕ × ℕ} (λ e. (e.vertex, e.port)) x.0.items) (sym turn.1)
    (c.requires.takes _ _ turn.0)

pub push_reserved-requires : goal.push_reserved-requires
push_reserved-requires g c =
    let turn = YieldsList-turn (YieldsList-from_vec {s = c.into_iter-puts-iterator.result} c.args.rows.items (search rules) (search rules))
    c.loop-puts.yielded c.loop-puts.puts-iterator c.loop-puts.yielded_by c.next.result c.next.new.self _ c.in-Some.is c.next.ensures.steps in
    let inv = c.loop-puts.invariant in
    let many = as_many (λ x. map (λ e. put_stamped e.end) x.0.items) (map put_of) c.loop-puts.yielded (map (λ mets. mets.items) c.loop-puts.all.items)
    inv.met.puts_are in
    omega (arith, turn.0, many, length-map c.loop-puts.all.items (λ mets. mets.items), inv.places, c.args.rows.ok.0, c.loop-puts.all.ok.0)

pub loop-puts-preserved : goal.loop-puts-preserved
loop-puts-preserved g c = record {
  places = omega (arith, c.push_reserved.ensures.capacity, c.loop-puts.invariant.places);
  met = one_row_met (map (λ mets. mets.items) c.loop-puts.all.items) _ _ _ _ _ _ _ _
      (ap (map (λ mets. mets.items)) c.push_reserved.ensures.items ∙ map-append (λ mets. mets.items) c.loop-puts.all.items _)
      (map-append (λ x. map (λ e. put_stamped e.end) x.0.items) c.loop-puts.yielded _)
      (map-append (λ x. map (λ e. taken_stamped e.end) x.1.items) c.loop-puts.yielded _)
      c.in_ok-meet_ends.ensures.met c.loop-puts.invariant.met;
  room = λ capacity below.
      All-same (λ mets. All (λ met. length (held_stamped met) ≤ capacity) mets.items) _ _ c.push_reserved.ensures.items
      (All-push (λ mets. All (λ met. length (held_stamped met) ≤ capacity) mets.items) c.loop-puts.all.items _
      (c.loop-puts.invariant.room capacity below) (c.in_ok-meet_ends.ensures.room capacity below));
}

pub returns-clause-met : goal.returns-clause-met
returns-clause-met g c =
    let end = YieldsList-end (YieldsList-from_vec {s = c.into_iter-puts-iterator.result} c.args.rows.items (search rules) (search rules))
    c.loop-puts.yielded c.loop-puts.puts-iterator c.loop-puts.yielded_by c.next.result c.next.new.self c.in-None.is c.next.ensures.steps in
    let all = sym (map-id c.loop-puts.yielded) ∙ end.0 in
    subst (λ rows. RowsAreMet (map (λ mets. mets.items) c.loop-puts.all.items) (map (λ x. map (λ e. put_stamped e.end) x.0.items) rows)
    (map (λ x. map (λ e. taken_stamped e.end) x.1.items) rows)) all c.loop-puts.invariant.met

pub returns-clause-room : goal.returns-clause-room
returns-clause-room g c = c.loop-puts.invariant.room
