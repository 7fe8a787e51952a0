use Rattle.std.proofs.Common.{◌≡◌, ◌++◌, flat_map}
use Rattle.std.specs.List.{range_with_len}
use Rattle.node_api.specs.Program.{last_pulse_on}
use Rattle.event_rule.specs.State.{node_of}
use Rattle.program_texts.specs.PayloadTexts.{payload_texts}
use Rattle.event_texts.specs.StateText.{links_text, node_text}
use Rattle.event_texts.proofs.state_text.text_of_state.Given as goal

abbrev pub invariant-loop-i : goal.invariant-loop-i
invariant-loop-i g l =
    let program = g.P.NodeProgram.program in
    let payloads = payload_texts g.P.Payload.PayloadText in
    l.text.items
    ≡ flat_map (λ v. node_text g.P.ProgramText.texts l.state.net (last_pulse_on program l.state.net) v (node_of program l.state.net l.state.state v)
    ++ links_text payloads l.state.net l.state.state v) (range_with_len 1 l.i)
