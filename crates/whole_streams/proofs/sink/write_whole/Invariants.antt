use Rattle.std.proofs.Common.{length, ◌-◌, ◌≤◌, take}
use Rattle.std.specs.Io.KnownBytes.{Appends}
use Rattle.whole_streams.specs.Counts.{CountsOn}
use Rattle.whole_streams.proofs.sink.write_whole.Given as goal

abbrev pub invariant-loop-done : goal.invariant-loop-done
invariant-loop-done g l = (l.done ≤ length l.bytes)
    × Appends (g.W.Write.contents l.fn.output) (g.W.Write.contents l.output) (take l.done l.bytes)
    × CountsOn (g.W.Sink.faults l.fn.output) 0 (g.W.Sink.faults l.output)

abbrev pub decreases-loop-done : goal.decreases-loop-done
decreases-loop-done g l = length l.bytes - l.done
