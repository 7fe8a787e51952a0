use Rattle.std.proofs.Common.{◌≡◌, ◌++◌, flat_map, take}
use Rattle.interference.specs.Net.{neighbours, port_to}
use Rattle.node_api.specs.Boxes.{at_port}
use Rattle.node_api.specs.Run.{outbox_at}
use Rattle.program_texts.specs.PayloadTexts.{payload_texts}
use Rattle.play_runs.specs.PutsText.{put_text}
use Rattle.play_runs.proofs.puts.push_puts.Given as goal

abbrev pub invariant-loop-port : goal.invariant-loop-port
invariant-loop-port g l =
    let at = l.rounds in
    let payloads = payload_texts g.P.Payload.PayloadText in
    l.text.items ≡ l.fn.text.items
    ++ flat_map (λ w. put_text payloads at.pulse l.v w
    (at_port (outbox_at g.P.NodeProgram.program at.net at.pulse l.v) (port_to at.net l.v w))) (take l.port (neighbours at.net l.v))
