use Rattle.std.proofs.Common.{ℕ, map, sym, ap, ◌∙◌, subst}
use Rattle.pool.proofs.Each.{ok_says}
use Rattle.link_queue.specs.Ends.{put_stamped, taken_stamped}
use Rattle.outcomes.specs.Meets.{AreMet}
use Rattle.outcomes.proofs.Meetings.{as_long, err_says}
use Rattle.port_rows.proofs.Sides.{firsts, seconds, same_each}
use Rattle.outcomes.proofs.meeting.meet_ends.Goals as goal

pub pairs-requires : goal.pairs-requires
pairs-requires g c = record {
  long = as_long {C = ℕ × ℕ} (λ e. (e.vertex, e.port)) (λ e. (e.vertex, e.port))
      c.args.puts.items c.args.takes.items _ _ c.args.puts.ok.0 c.args.takes.ok.0 c.requires.takes;
}

pub returns-in_err-row-clause-met : goal.returns-in_err-row-clause-met
returns-in_err-row-clause-met g c = err_says _ c.from_residual.result c.from_residual.ensures.0

pub returns-in_err-row-clause-room : goal.returns-in_err-row-clause-room
returns-in_err-row-clause-room g c = err_says _ c.from_residual.result c.from_residual.ensures.0

pub meet_row-requires-clause-same : goal.meet_row-requires-clause-same
meet_row-requires-clause-same g c κs within =
    let row = c.in_ok-row.row.items in
    λ k d lt.
    let e = same_each {D = ℕ × ℕ} (λ x. (x.1.vertex, x.1.port)) (λ x. (x.0.vertex, x.0.port)) row
    (seconds {D = ℕ × ℕ} row c.args.takes.items (λ e. (e.vertex, e.port)) c.in_ok-row.ensures.right
    ∙ c.requires.takes
    ∙ sym (firsts {D = ℕ × ℕ} row c.args.puts.items (λ e. (e.vertex, e.port)) c.in_ok-row.ensures.left)) k d lt in
    (ap (λ (p : ℕ × ℕ). p.0) e, ap (λ (p : ℕ × ℕ). p.1) e)

pub returns : goal.returns
returns g c =
    let row = c.in_ok-row.row.items in
    let puts = firsts row c.args.puts.items (λ e. put_stamped e.end) c.in_ok-row.ensures.left in
    let takes = seconds row c.args.takes.items (λ e. taken_stamped e.end) c.in_ok-row.ensures.right in
    record {
      met = ok_says c.meet_row.result
          (λ mets are. subst (λ l. AreMet mets.items l (map (λ e. taken_stamped e.end) c.args.takes.items)) puts
          (subst (λ l. AreMet mets.items (map (λ x. put_stamped x.0.end) row) l) takes are)) c.meet_row.ensures.met;
      room = c.meet_row.ensures.room;
    }
