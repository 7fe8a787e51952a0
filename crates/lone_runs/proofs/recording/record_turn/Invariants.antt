use Rattle.std.proofs.Common.{◌≡◌, false}
use Rattle.interference.specs.Net.{degree_of}
use Rattle.lone_runs.specs.Recorded.{IsRecorded}
use Rattle.lone_runs.specs.Ticks.{IsInTurn}
use Rattle.lone_runs.specs.Went.{Went}
use Rattle.lone_runs.proofs.Ticks.{OwnAbove}
use Rattle.lone_runs.proofs.recording.record_turn.Given as goal

-- the events of v by ports below this one have no place in this tick
abbrev pub invariant-loop-port : goal.invariant-loop-port
invariant-loop-port g l =
    let m = g.P.NodeProgram in
    let at = l.recording.state in
    let rows = l.recording.rows.items in
    record {
      went : Went m.program l.fn.recording.state l.did at;
      recorded : IsRecorded m.program at rows l.recording.table;
      degree : l.degree ≡ degree_of at.net l.v;
      turn : IsInTurn m.program at.net at.state rows l.stamp l.v;
      above : OwnAbove m.program at.net at.state rows l.stamp l.v l.port;
      none : l.did ≡ false → rows ≡ l.fn.recording.rows.items;
    }
