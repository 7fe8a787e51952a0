use Rattle.std.proofs.Common.{◌≡◌, ◌≤◌, ◌+◌, ◌-◌}
use Rattle.alpha_laws.specs.Counts.{events_of_run}
use Rattle.event_rule.specs.Progress.{events_in}
use Rattle.lone_runs.specs.Recorded.{IsRecorded}
use Rattle.lone_runs.specs.Ticks.{IsBeforeTick}
use Rattle.lone_runs.proofs.recording.record_all.Given as goal

abbrev pub invariant-loop-did : goal.invariant-loop-did
invariant-loop-did g l =
    let m = g.P.NodeProgram in
    let at = l.recording.state in
    record {
      recorded : IsRecorded m.program at l.recording.rows.items l.recording.table;
      net : at.net ≡ l.fn.recording.state.net;
      tick : IsBeforeTick m.program at.net at.state l.recording.rows.items l.stamp;
      low : l.stamp ≤ events_in m.program at.net at.state + 1;
    }

abbrev pub decreases-loop-did : goal.decreases-loop-did
decreases-loop-did g l =
    let m = g.P.NodeProgram in
    events_of_run m.program l.recording.state.net - events_in m.program l.recording.state.net l.recording.state.state
