-- The events of a node keep its stamps.
use Rattle.std.specs.Prelude.{◌≡◌, ℕ, ◌+◌, ◌<◌, max, List, [], ◌∷◌, ◌++◌, length}
use Rattle.interference.specs.Net.{Net, degree_of, neighbour_of}
use Rattle.wires.specs.declared.stamped.Stamped.{Stamped}
use Rattle.wires.specs.declared.wire.Wire.{Wire}
use Rattle.entries.specs.declared.entry.Entry.TheVariants.{Pulse, Put, Take}
use Rattle.wires.specs.StampedWires.{stamped}
use Rattle.entries.specs.declared.rows.StampedEntry.{StampedEntry}
use Rattle.entries.specs.Rows.{stamped_entry}
use Rattle.stamps.specs.Stamps.{taken_in}
use Rattle.stamps.specs.Keeps.{HasTaken, KeepsStamps, OneMore, TakesAreByPorts}

-- At the start, and by each event: a put, a take, a take that is set aside, a pulse.
pub record EventsKeepStamps (M : Type 0) (net : Net) (v : ℕ) : Type 0 where
  pub starts : KeepsStamps {M = M} net v 0 (λ i. []) (λ i. []) []
  pub puts : (i counter : ℕ) (wire : Wire M) (puts puts' takens : ℕ → List (Stamped M))
      (entries : List (StampedEntry M)) → i < degree_of net v → KeepsStamps net v counter puts takens entries
      → OneMore i (stamped (counter + 1) wire) puts puts'
      → KeepsStamps net v (counter + 1) puts' takens
      (entries ++ (stamped_entry (counter + 1) (Put (neighbour_of net v i) wire) ∷ []))
  pub takes : (i counter : ℕ) (wire : Stamped M) (puts takens takens' : ℕ → List (Stamped M))
      (entries : List (StampedEntry M)) → i < degree_of net v → KeepsStamps net v counter puts takens entries
      → HasTaken net v takens entries → length (taken_in entries (neighbour_of net v i)) ≡ length (takens i)
      → TakesAreByPorts net v entries → OneMore i wire takens takens'
      → KeepsStamps net v (max counter wire.stamp + 1) puts takens'
      (entries ++ (stamped_entry (max counter wire.stamp + 1) (Take (neighbour_of net v i) wire.wire) ∷ []))
  pub asides : (i counter : ℕ) (wire : Stamped M) (puts takens takens' : ℕ → List (Stamped M))
      (entries : List (StampedEntry M)) → i < degree_of net v → KeepsStamps net v counter puts takens entries
      → HasTaken net v takens entries → TakesAreByPorts net v entries → OneMore i wire takens takens'
      → KeepsStamps net v counter puts takens' entries
  pub pulses : (p counter : ℕ) (puts takens : ℕ → List (Stamped M)) (entries : List (StampedEntry M))
      → KeepsStamps net v counter puts takens entries
      → KeepsStamps net v (counter + 1) puts takens (entries ++ (stamped_entry (counter + 1) (Pulse p) ∷ []))
