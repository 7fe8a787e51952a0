use Rattle.std.proofs.Common.{◌≡◌, ◌≤◌, vec_capacity}
use Rattle.std.specs.List.{range_with_len}
use Rattle.interference.specs.Net.{count_of}
use Rattle.event_rule.specs.State.{started_nodes}
use Rattle.event_machine.proofs.state.started_nodes.Given as goal

abbrev pub invariant-loop-i : goal.invariant-loop-i
invariant-loop-i g l = record {
  room : count_of l.net ≤ vec_capacity l.nodes;
  made : l.nodes.items ≡ started_nodes g.P.NodeProgram.program l.net (range_with_len 1 l.i);
}
