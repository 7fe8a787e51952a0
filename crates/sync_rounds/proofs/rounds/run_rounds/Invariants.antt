use Rattle.std.proofs.Common.{◌≡◌}
use Rattle.sync_rounds.specs.Rounds.{AtPulse}
use Rattle.sync_rounds.proofs.rounds.run_rounds.Given as goal

abbrev pub invariant-loop-done : goal.invariant-loop-done
invariant-loop-done g l =
    let here : AtPulse = record { net = l.net; pulse = l._done } in
    record { rounds : l.rounds ≡ here }
