use Rattle.std.proofs.Common.{◌≡◌, false}
use Rattle.interference.specs.Net.{count_of}
use Rattle.lone_runs.specs.Went.{Went}
use Rattle.lone_runs.proofs.Events.{StuckTo}
use Rattle.lone_runs.proofs.alone.round.Given as goal

abbrev pub invariant-loop-i : goal.invariant-loop-i
invariant-loop-i g l =
    let m = g.P.NodeProgram in
    record {
      went : Went m.program l.fn.state l.did l.state;
      count : l.count ≡ count_of l.state.net;
      stuck : l.did ≡ false → StuckTo m.program l.state l.i;
    }
