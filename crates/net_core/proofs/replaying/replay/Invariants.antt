use Rattle.std.proofs.Common.{◌≡◌, take}
use Rattle.event_rule.specs.Replays.{IsReplay}
use Rattle.net_core.proofs.replaying.replay.Given as goal

-- the entries so far are a replay that leads to the state
abbrev pub invariant-loop-index : goal.invariant-loop-index
invariant-loop-index g l =
    let m = g.P.NodeProgram in
    record {
      net : l.state.net ≡ l.net;
      replay : IsReplay m.program l.net (take l.index l.entries) l.state.state;
    }
