use Rattle.std.proofs.Common.{◌≡◌, ◌++◌, flat_map}
use Rattle.std.specs.List.{range_with_len}
use Rattle.interference.specs.Net.{neighbour_of}
use Rattle.event_rule.specs.State.{link_at}
use Rattle.program_texts.specs.PayloadTexts.{payload_texts}
use Rattle.event_texts.specs.StateText.{link_text}
use Rattle.event_texts.proofs.state_text.push_links.Given as goal

abbrev pub invariant-loop-port : goal.invariant-loop-port
invariant-loop-port g l =
    let payloads = payload_texts g.P.Payload.PayloadText in
    l.text.items ≡ l.fn.text.items
    ++ flat_map (λ port. link_text payloads l.v (neighbour_of l.state.net l.v port) (link_at l.state.state.links l.v port))
    (range_with_len 0 l.port)
