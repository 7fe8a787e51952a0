use Rattle.std.proofs.Common.{◌≡◌, ◌+◌, ◌++◌, arith}
use Rattle.program_texts.specs.PayloadTexts.{payload_texts}
use Rattle.play_runs.specs.RoundsText.{pulse_line, vertex_text}
use Rattle.number_rows.proofs.Ranges.{texts-more}
use Rattle.play_runs.proofs.round_texts.push_pulse.Goals as goal

pub loop-i-preserved : goal.loop-i-preserved
loop-i-preserved g c =
    let at = c.args.rounds.now in
    let v = c.loop-i.i + 1 in
    let texts = g.P.ProgramText.texts in
    let payloads = payload_texts g.P.Payload.PayloadText in
    let same : 1 + c.loop-i.i ≡ v = omega arith in
    texts-more (vertex_text g.P.NodeProgram.program texts payloads at.net at.pulse) 1 c.loop-i.i v
    (c.args.text.now.items ++ pulse_line texts at.net at.pulse) c.loop-i.text.items
    c.push_vertex.new.text.items same c.loop-i.invariant c.in_ok-push_vertex.ensures
