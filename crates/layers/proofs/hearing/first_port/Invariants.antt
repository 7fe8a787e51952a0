use Rattle.std.proofs.Common.{◌≡◌, ◌-◌, length}
use Rattle.std.specs.Prelude.{Ok}
use Rattle.node_api.proofs.Reading.{fold_rest}
use Rattle.layers.specs.Layering.{and_heard, heard}
use Rattle.layers.proofs.hearing.first_port.Given as goal

abbrev pub invariant-loop-reader : goal.invariant-loop-reader
invariant-loop-reader l =
    record {
      same : l.reader.slots ≡ l.fn.inbox.slots;
      rest : fold_rest (and_heard l.last l.pulse) (Ok l.first) l.reader ≡ heard l.last l.pulse l.fn.inbox.slots;
    }

abbrev pub decreases-loop-reader : goal.decreases-loop-reader
decreases-loop-reader l = length l.reader.slots - l.reader.cursor
