use Rattle.std.proofs.Common.{◌≡◌, flat_map}
use Rattle.std.specs.List.{range_with_len}
use Rattle.event_rule.specs.State.{node_of}
use Rattle.play_runs.specs.Ends.{node_end}
use Rattle.play_runs.proofs.ends.text_of_ends.Given as goal

-- the lines of the nodes so far
abbrev pub invariant-loop-i : goal.invariant-loop-i
invariant-loop-i g l =
    let program = g.P.NodeProgram.program in
    l.text.items
    ≡ flat_map (λ v. node_end g.P.ProgramText.texts l.state.net v (node_of program l.state.net l.state.state v)) (range_with_len 1 l.i)
