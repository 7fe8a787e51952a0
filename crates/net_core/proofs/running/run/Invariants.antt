use Rattle.std.proofs.Common.{◌≡◌, take, Ok}
use Rattle.event_rule.specs.Step.{run}
use Rattle.net_core.proofs.running.run.Given as goal

abbrev pub invariant-loop-index : goal.invariant-loop-index
invariant-loop-index g l =
    let m = g.P.NodeProgram in
    record {
      net : l.state.net ≡ l.net;
      run : run m.program l.net (take l.index l.events) ≡ Ok l.state.state;
    }
