use Rattle.std.proofs.Common.{ℕ, ◌≤◌}
use Rattle.event_rule.specs.Whole.{IsDone}
use Rattle.net_core.proofs.whole_state.is_whole.Given as goal

abbrev pub invariant-loop-i : goal.invariant-loop-i
invariant-loop-i g l =
    let m = g.P.NodeProgram in
    (v : ℕ) → 1 ≤ v → v ≤ l.i → IsDone m.program l.state.net l.state.state v
