use Rattle.std.proofs.Common.{◌≡◌, ◌+◌, ◌-◌, ◌<◌, length}
use Rattle.colour_rules.specs.Taken.{room_of}
use Rattle.colour_rules.specs.Program.{with_roles}
use Rattle.colour_rules.specs.contracts.node.ColourNode.{the_view}
use Rattle.colour_rules.proofs.Labelling.{Labelled}
use Rattle.colour_rules.proofs.node.ColourNode.label.Given as goal

abbrev pub invariant-loop-reader : goal.invariant-loop-reader
invariant-loop-reader l =
    record {
      same : l.reader.slots ≡ l.fn.inbox.slots;
      room : l.self-inside.greatest_degree + l.self-inside.greatest_bars < room_of l.self-inside.taken;
      node : the_view l.self-inside ≡ with_roles l.fn.self l.self-inside.roles.items;
      roles : Labelled l.fn.self.roles l.fn.inbox.slots l.reader.cursor l.self-inside.roles.items;
    }

abbrev pub decreases-loop-reader : goal.decreases-loop-reader
decreases-loop-reader l = length l.reader.slots - l.reader.cursor
