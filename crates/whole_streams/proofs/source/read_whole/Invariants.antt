use Rattle.std.proofs.Common.{◌≤◌, length}
use Rattle.std.specs.Io.KnownBytes.{Consumes}
use Rattle.whole_streams.specs.Counts.{CountsDown, CountsOn}
use Rattle.whole_streams.proofs.source.read_whole.Given as goal

abbrev pub invariant-loop-turn : goal.invariant-loop-turn
invariant-loop-turn g l = (l._turn ≤ length l.bytes.items)
    × Consumes (g.R.Read.remaining l.fn.input) (g.R.Read.remaining l.input) l.bytes.items
    × CountsOn (g.R.Source.faults l.fn.input) 0 (g.R.Source.faults l.input)
    × CountsDown (g.R.Source.reads_left l.fn.input) l._turn (g.R.Source.reads_left l.input)
