use Rattle.std.proofs.Common.{◌≡◌, take, Ok}
use Rattle.event_rule.specs.Step.{run}
use Rattle.event_texts.specs.Played.{events_in}
use Rattle.event_texts.proofs.playing.play.Given as goal

abbrev pub invariant-loop-row : goal.invariant-loop-row
invariant-loop-row g l =
    let m = g.P.NodeProgram in
    record {
      net : l.state.net ≡ l.net;
      run : run m.program l.net (events_in (take l.row-index l.script)) ≡ Ok l.state.state;
    }
