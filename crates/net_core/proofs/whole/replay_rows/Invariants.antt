use Rattle.std.proofs.Common.{◌≡◌, take}
use Rattle.event_rule.specs.Whole.{IsStampedReplay}
use Rattle.stamps.specs.Table.{IsTableOf}
use Rattle.net_core.proofs.whole.replay_rows.Given as goal

-- the rows so far are a stamped replay that leads to the state, and the table is theirs
abbrev pub invariant-loop-index : goal.invariant-loop-index
invariant-loop-index g l =
    let m = g.P.NodeProgram in
    record {
      net : l.state.net ≡ l.fn.state.net;
      replay : IsStampedReplay m.program l.fn.state.net (take l.index l.rows) l.state.state;
      table : IsTableOf (take l.index l.rows) l.table;
    }
