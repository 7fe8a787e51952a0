-- A wire with its stamp, as the queue of a link holds it.
use Rattle.std.proofs.Common.{◌≡◌, ℕ, sym}
use Rattle.wires.specs.declared.wire.Wire.{Wire}
use Rattle.wires.specs.StampedWires.{stamped}
use Rattle.link_queue.specs.Queued.{stamped_of}
use Rattle.link_queue.specs.declared.queued.Queued.{Queued}

-- it is its stamp and its wire
pub parts_of : {T : Type 0} (item : Queued T) (s : ℕ) (wire : Wire T) → s ≡ (stamped_of item).stamp → (stamped_of item).wire ≡ wire
    → stamped_of item ≡ stamped s wire
parts_of item s wire a b i = stamped (sym a i) (b i)
