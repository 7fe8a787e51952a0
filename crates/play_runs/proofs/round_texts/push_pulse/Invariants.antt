use Rattle.std.proofs.Common.{◌≡◌, ◌++◌, flat_map}
use Rattle.std.specs.List.{range_with_len}
use Rattle.program_texts.specs.PayloadTexts.{payload_texts}
use Rattle.play_runs.specs.RoundsText.{pulse_line, vertex_text}
use Rattle.play_runs.proofs.round_texts.push_pulse.Given as goal

abbrev pub invariant-loop-i : goal.invariant-loop-i
invariant-loop-i g l =
    let payloads = payload_texts g.P.Payload.PayloadText in
    l.text.items
    ≡ (l.fn.text.items ++ pulse_line g.P.ProgramText.texts l.rounds.net l.rounds.pulse)
    ++ flat_map (vertex_text g.P.NodeProgram.program g.P.ProgramText.texts payloads l.rounds.net l.rounds.pulse) (range_with_len 1 l.i)
