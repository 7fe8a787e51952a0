use Rattle.std.proofs.Common.{◌≡◌, ◌-◌, length}
use Rattle.node_api.proofs.Reading.{fold_rest}
use Rattle.followed.specs.Said.{and_misplaced, misplaced}
use Rattle.followed.proofs.HeardTo.{HeardTo}
use Rattle.followed.proofs.hearing.hear.Given as goal

abbrev pub invariant-loop-reader : goal.invariant-loop-reader
invariant-loop-reader g l =
    record {
      same : l.reader.slots ≡ l.fn.inbox.slots;
      cursor : l.own.cursor ≡ 0;
      heard : HeardTo l.fn.inbox.slots l.own.slots l.reader.cursor;
      rest : fold_rest and_misplaced l.found l.reader ≡ misplaced l.fn.inbox.slots;
    }

abbrev pub decreases-loop-reader : goal.decreases-loop-reader
decreases-loop-reader g l = length l.reader.slots - l.reader.cursor
