use Rattle.std.proofs.Common.{◌≡◌, ◌+◌, false}
use Rattle.interference.specs.Net.{count_of}
use Rattle.lone_runs.specs.Recorded.{IsRecorded}
use Rattle.lone_runs.specs.Ticks.{IsInTurn}
use Rattle.lone_runs.specs.Went.{Went}
use Rattle.lone_runs.proofs.recording.record_tick.Given as goal

abbrev pub invariant-loop-i : goal.invariant-loop-i
invariant-loop-i g l =
    let m = g.P.NodeProgram in
    let at = l.recording.state in
    let rows = l.recording.rows.items in
    record {
      went : Went m.program l.fn.recording.state l.did at;
      recorded : IsRecorded m.program at rows l.recording.table;
      count : l.count ≡ count_of at.net;
      turn : IsInTurn m.program at.net at.state rows l.stamp (l.i + 1);
      none : l.did ≡ false → rows ≡ l.fn.recording.rows.items;
    }
