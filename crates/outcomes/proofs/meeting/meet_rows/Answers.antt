use Rattle.std.proofs.Common.{ℕ, map, sym, ◌∙◌, subst}
use Rattle.std.specs.Prelude.{List}
use Rattle.pool.proofs.Each.{ok_says}
use Rattle.link_queue.specs.Ends.{put_stamped, taken_stamped}
use Rattle.outcomes.specs.Meets.{RowsAreMet}
use Rattle.outcomes.proofs.Meetings.{as_long, err_says}
use Rattle.port_rows.proofs.Sides.{firsts, seconds, same_each}
use Rattle.outcomes.proofs.meeting.meet_rows.Goals as goal

pub pairs-requires : goal.pairs-requires
pairs-requires g c = record {
  long = as_long {C = List (ℕ × ℕ)} (λ row. map (λ e. (e.vertex, e.port)) row.items) (λ row. map (λ e. (e.vertex, e.port)) row.items)
      c.args.puts.items c.args.takes.items _ _ c.args.puts.ok.0 c.args.takes.ok.0 c.requires.takes;
}

pub returns-in_err-rows-clause-met : goal.returns-in_err-rows-clause-met
returns-in_err-rows-clause-met g c = err_says _ c.from_residual.result c.from_residual.ensures.0

pub returns-in_err-rows-clause-room : goal.returns-in_err-rows-clause-room
returns-in_err-rows-clause-room g c = err_says _ c.from_residual.result c.from_residual.ensures.0

pub meet_each-requires-clause-takes : goal.meet_each-requires-clause-takes
meet_each-requires-clause-takes g c κs within =
    let rows = c.in_ok-rows.rows.items in
    same_each {D = List (ℕ × ℕ)} (λ x. map (λ e. (e.vertex, e.port)) x.1.items) (λ x. map (λ e. (e.vertex, e.port)) x.0.items) rows
    (seconds {D = List (ℕ × ℕ)} rows c.args.takes.items (λ row. map (λ e. (e.vertex, e.port)) row.items) c.in_ok-rows.ensures.right
    ∙ c.requires.takes
    ∙ sym (firsts {D = List (ℕ × ℕ)} rows c.args.puts.items (λ row. map (λ e. (e.vertex, e.port)) row.items) c.in_ok-rows.ensures.left))

pub returns : goal.returns
returns g c =
    let rows = c.in_ok-rows.rows.items in
    let puts = firsts rows c.args.puts.items (λ row. map (λ e. put_stamped e.end) row.items) c.in_ok-rows.ensures.left in
    let takes = seconds rows c.args.takes.items (λ row. map (λ e. taken_stamped e.end) row.items) c.in_ok-rows.ensures.right in
    record {
      met = ok_says c.meet_each.result
          (λ all are. subst (λ l. RowsAreMet (map (λ mets. mets.items) all.items) l (map (λ row. map (λ e. taken_stamped e.end) row.items) c.args.takes.items))
          puts
          (subst (λ l. RowsAreMet (map (λ mets. mets.items) all.items) (map (λ x. map (λ e. put_stamped e.end) x.0.items) rows) l) takes are))
          c.meet_each.ensures.met;
      room = c.meet_each.ensures.room;
    }
