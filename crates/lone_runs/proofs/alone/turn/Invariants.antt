use Rattle.std.proofs.Common.{◌≡◌, false}
use Rattle.interference.specs.Net.{degree_of}
use Rattle.lone_runs.specs.Went.{Went}
use Rattle.lone_runs.proofs.Events.{StuckBefore}
use Rattle.lone_runs.proofs.alone.turn.Given as goal

abbrev pub invariant-loop-port : goal.invariant-loop-port
invariant-loop-port g l =
    let m = g.P.NodeProgram in
    record {
      went : Went m.program l.fn.state l.did l.state;
      degree : l.degree ≡ degree_of l.state.net l.v;
      stuck : l.did ≡ false → StuckBefore m.program l.state l.v l.port;
    }
