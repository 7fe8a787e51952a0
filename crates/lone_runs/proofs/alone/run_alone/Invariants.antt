use Rattle.std.proofs.Common.{◌≡◌, ◌-◌}
use Rattle.alpha_laws.specs.Counts.{events_of_run}
use Rattle.event_rule.specs.Progress.{events_in}
use Rattle.lone_runs.proofs.alone.run_alone.Given as goal

abbrev pub invariant-loop-state : goal.invariant-loop-state
invariant-loop-state g l = l.state.net ≡ l.net

abbrev pub decreases-loop-state : goal.decreases-loop-state
decreases-loop-state g l =
    let m = g.P.NodeProgram in
    events_of_run m.program l.state.net - events_in m.program l.state.net l.state.state
