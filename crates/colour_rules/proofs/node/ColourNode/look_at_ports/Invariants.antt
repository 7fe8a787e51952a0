use Rattle.std.proofs.Common.{◌≡◌, ◌≤◌, ◌-◌, length, take}
use Rattle.colour_rules.specs.Node.{ports}
use Rattle.colour_rules.specs.Refusals.{Looked}
use Rattle.colour_rules.proofs.node.ColourNode.look_at_ports.Given as goal

abbrev pub invariant-loop-reader : goal.invariant-loop-reader
invariant-loop-reader l =
    record {
      same : l.reader.slots ≡ l.fn.inbox.slots;
      cursor : l.from ≡ l.reader.cursor;
      within : l.from ≤ ports l.fn.self;
      room : length l.identifiers ≡ length l.fn.identifiers;
      few : l.count ≤ l.from;
      fit : l.count ≤ length l.identifiers;
      looked : Looked l.fn.self l.fn.phase l.fn.inbox.slots l.from (take l.count l.identifiers);
    }

abbrev pub decreases-loop-reader : goal.decreases-loop-reader
decreases-loop-reader l = length l.reader.slots - l.reader.cursor
