-- What the queue of a link holds.
use Rattle.std.specs.Prelude.{List, map}
use Rattle.wires.specs.StampedWires.{stamped}
use Rattle.wires.specs.declared.stamped.Stamped.{Stamped}
use Rattle.wires.specs.declared.wire.Wire.TheVariants as wire
use Rattle.link_queue.specs.declared.queued.Queued.{Queued}
use Rattle.link_queue.specs.declared.queued.Queued.TheVariants.{Payload, Ack, Safe, Close}

module _ {T : Type 0} where
  -- the wire with its stamp that one item of the queue is
  abbrev pub stamped_of : Queued T → Stamped T
  stamped_of (Payload pulse stamp payload) = stamped stamp (wire.Payload pulse payload)
  stamped_of (Ack pulse stamp) = stamped stamp (wire.Ack pulse)
  stamped_of (Safe pulse stamp) = stamped stamp (wire.Safe pulse)
  stamped_of (Close stamp) = stamped stamp wire.Close

  -- the wires with their stamps that the items of the queue are
  abbrev pub all_stamped : List (Queued T) → List (Stamped T)
  all_stamped items = map stamped_of items
