use Rattle.std.proofs.Common.{◌≡◌, flat_map}
use Rattle.std.specs.List.{range_with_len}
use Rattle.event_rule.specs.State.{node_of}
use Rattle.event_texts.specs.Missing.{lacking_at}
use Rattle.event_texts.proofs.missing.lacking.Given as goal

abbrev pub invariant-loop-port : goal.invariant-loop-port
invariant-loop-port g l = l.names.items ≡ flat_map (λ port.
    lacking_at l.state.net l.v (node_of g.P.NodeProgram.program l.state.net l.state.state l.v).view l.lack port) (range_with_len 0 l.port)
