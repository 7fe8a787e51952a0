use Rattle.std.proofs.Common.{◌≡◌, ◌∙◌, ap, subst, sym}
use Rattle.interference.specs.Net.{IsNetwork}
use Rattle.event_rule.specs.State.{start}
use Rattle.event_rule.specs.Whole.{IsStampedReplay}
use Rattle.event_machine.proofs.Stamped.{stamped-start}
use Rattle.event_rule.specs.Endings.{IsWholeState}
use Rattle.stamps.specs.Table.{IsTableOf}
use Rattle.stamps.proofs.Tables.{empty_table}
use Rattle.lone_runs.specs.Recorded.{AreWhole}
use Rattle.lone_runs.specs.Ticks.{IsBeforeTick}
use Rattle.lone_runs.proofs.Events.{at_end}
use Rattle.lone_runs.proofs.Recorded.{are_whole}
use Rattle.lone_runs.proofs.Ticks.{first_tick}
use Rattle.lone_runs.proofs.recording.record_alone.Goals as goal

-- no row leads to the start
pub record_all-requires-clause-recorded : goal.record_all-requires-clause-recorded
record_all-requires-clause-recorded g c κs within =
    let program = g.P.NodeProgram.program in
    let net = c.args.net.now in
    let none = c.new-rows.ensures.items in
    record {
      replay = subst (λ s. IsStampedReplay program s.net c.new-rows.result.items s.state) (sym c.in_ok-state.ensures.start)
          (subst (λ l. IsStampedReplay program net l (start program net)) (sym none) (stamped-start program net));
      table_is = subst (λ l. IsTableOf l c.new-table.result) (sym none) (empty_table c.new-table.result c.new-table.ensures.none);
    }

pub record_all-requires-clause-tick : goal.record_all-requires-clause-tick
record_all-requires-clause-tick g c κs within =
    let program = g.P.NodeProgram.program in
    let net = c.args.net.now in
    let none = c.new-rows.ensures.items in
    subst (λ s. IsBeforeTick program s.net s.state c.new-rows.result.items 1) (sym c.in_ok-state.ensures.start)
    (subst (λ l. IsBeforeTick program net (start program net) l 1) (sym none) (first_tick program net))

-- no event is possible, so the state is whole
pub returns : goal.returns
returns g c =
    let program = g.P.NodeProgram.program in
    let at = c.record_all.new.recording.state in
    let rows = c.record_all.new.recording.rows.items in
    let ok = subst IsNetwork c.network.ensures.network c.nodes.ensures.network in
    let whole : IsWholeState program at.net at.state =
    (at_end program at.net g.P.NodeProgram.laws ok at.state c.is_simulation.ensures.reached c.in_ok-record_all.ensures.over).0 in
    let net : at.net ≡ c.args.net.now = c.in_ok-record_all.ensures.network ∙ ap (λ s. s.net) c.in_ok-state.ensures.start in
    record { whole = subst (λ n. AreWhole program n rows) net (are_whole program at.net rows at.state c.in_ok-record_all.ensures.recorded.replay whole) }
