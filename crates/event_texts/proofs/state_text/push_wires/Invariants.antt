use Rattle.std.proofs.Common.{◌≡◌, ◌++◌, flat_map, take}
use Rattle.program_texts.specs.PayloadTexts.{payload_texts}
use Rattle.program_texts.specs.WireText.{wire_text}
use Rattle.event_texts.proofs.state_text.push_wires.Given as goal

abbrev pub invariant-loop-wire : goal.invariant-loop-wire
invariant-loop-wire g l =
    let payloads = payload_texts g.T.PayloadText in
    l.text.items ≡ l.fn.text.items ++ flat_map (wire_text payloads) (take l.wire-index l.wires)
