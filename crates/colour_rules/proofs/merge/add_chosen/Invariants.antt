use Rattle.std.proofs.Common.{◌≡◌, ◌-◌, length}
use Rattle.node_api.proofs.Reading.{fold_rest}
use Rattle.colour_rules.specs.Choice.{with_chosen}
use Rattle.colour_rules.proofs.Reading.{taken_in}
use Rattle.colour_rules.proofs.merge.add_chosen.Given as goal

abbrev pub invariant-loop-reader : goal.invariant-loop-reader
invariant-loop-reader g l =
    record {
      same : l.reader.slots ≡ l.fn.inbox.slots;
      rest : fold_rest taken_in l.chosen l.reader ≡ with_chosen l.fn.chosen l.fn.inbox.slots;
    }

abbrev pub decreases-loop-reader : goal.decreases-loop-reader
decreases-loop-reader g l = length l.reader.slots - l.reader.cursor
