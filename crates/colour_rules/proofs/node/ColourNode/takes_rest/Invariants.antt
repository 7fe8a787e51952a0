use Rattle.std.proofs.Common.{◌≡◌, ◌≤◌, ◌-◌, length}
use Rattle.colour_rules.specs.Idle.{IsPassed}
use Rattle.colour_rules.specs.Node.{ports}
use Rattle.colour_rules.proofs.node.ColourNode.takes_rest.Given as goal

abbrev pub invariant-loop-reader : goal.invariant-loop-reader
invariant-loop-reader l =
    record {
      same : l.reader.slots ≡ l.fn.reader.slots;
      within : l.reader.cursor ≤ ports l.fn.self;
      passed : IsPassed l.fn.self l.fn.forest l.fn.reader.slots l.reader.cursor;
    }

abbrev pub decreases-loop-reader : goal.decreases-loop-reader
decreases-loop-reader l = length l.reader.slots - l.reader.cursor
