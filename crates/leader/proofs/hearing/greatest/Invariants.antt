use Rattle.std.proofs.Common.{◌≡◌, ◌-◌, length}
use Rattle.std.specs.Prelude.{Ok}
use Rattle.node_api.proofs.Reading.{fold_rest}
use Rattle.leader.specs.Election.{and_heard, heard}
use Rattle.leader.proofs.hearing.greatest.Given as goal

abbrev pub invariant-loop-reader : goal.invariant-loop-reader
invariant-loop-reader l =
    record {
      same : l.reader.slots ≡ l.fn.inbox.slots;
      rest : fold_rest (and_heard l.last l.pulse) (Ok l.best) l.reader ≡ heard l.known l.last l.pulse l.fn.inbox.slots;
    }

abbrev pub decreases-loop-reader : goal.decreases-loop-reader
decreases-loop-reader l = length l.reader.slots - l.reader.cursor
