use Rattle.std.proofs.Common.{◌≡◌, flat_map}
use Rattle.std.specs.List.{range_with_len}
use Rattle.node_api.specs.Program.{last_pulse_on}
use Rattle.node_api.specs.Run.{last_state}
use Rattle.play_runs.specs.Ends.{end_line}
use Rattle.play_runs.proofs.last_states.text_of_states.Given as goal

-- the lines of the vertices so far
abbrev pub invariant-loop-i : goal.invariant-loop-i
invariant-loop-i g l =
    let program = g.P.NodeProgram.program in
    l.text.items
    ≡ flat_map (λ v. end_line g.P.ProgramText.texts l.net v (last_pulse_on program l.net) (last_state program l.net v)) (range_with_len 1 l.i)
