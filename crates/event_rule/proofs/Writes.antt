-- What the event of a row with a wire writes down, where its neighbour is one.
use Rattle.std.proofs.Common.{◌≡◌, ◌<◌, ◌∙◌, ℕ, Option, Some, ap}
use Rattle.std.specs.Option.{option_map}
use Rattle.interference.specs.Net.{Net, neighbours, degree_of, neighbour_of, port_to}
use Rattle.interference.proofs.Members.{place_of-is}
use Rattle.wires.specs.declared.wire.Wire.{Wire}
use Rattle.entries.specs.declared.entry.Entry.{Entry}
use Rattle.entries.specs.declared.rows.Row.{Row}
use Rattle.entries.specs.Rows.{vertex_row}

pub leads : (net : Net) (v w : ℕ) → port_to net v w < degree_of net v → neighbour_of net v (port_to net v w) ≡ w
leads net v w there = place_of-is w (neighbours net v) 0 there

module _ {M : Type 0} (net : Net) (v w : ℕ) (there : port_to net v w < degree_of net v) where
  pub row-is : (make : ℕ → Wire M → Entry M) (oldest : Option (Wire M)) (wire : Wire M) → oldest ≡ Some wire →
      ◌≡◌ {A = Option (Row M)} (option_map (λ x. vertex_row v (make (neighbour_of net v (port_to net v w)) x)) oldest) (Some (vertex_row v (make w wire)))
  row-is make oldest wire e =
      ap (λ o. option_map (λ x. vertex_row v (make (neighbour_of net v (port_to net v w)) x)) o) e
      ∙ ap (λ u. Some (vertex_row v (make u wire))) (leads net v w there)
