-- What a node keeps of its stamps.
use Rattle.std.specs.Prelude.{◌≡◌, ℕ, ◌<◌, ◌≤◌, List, [], ◌∷◌, ◌++◌, length}
use Rattle.interference.specs.Net.{Net, degree_of, neighbour_of, port_to}
use Rattle.wires.specs.declared.stamped.Stamped.{Stamped}
use Rattle.wires.specs.StampedWires.{stamps_of}
use Rattle.entries.specs.declared.rows.StampedEntry.{StampedEntry}
use Rattle.stamps.specs.Stamps.{AreStamped, counter_of, put_in, taken_in}

-- the stamps of the wires that came from a neighbour, by the lists of the ends
abbrev pub came_to : {M : Type 0} → Net → ℕ → (ℕ → List (Stamped M)) → ℕ → List ℕ
came_to net v takens w = stamps_of (takens (port_to net v w))

-- What a node keeps of its stamps. The lists of its ends have the wires with the stamps of their puts, by port.
pub record KeepsStamps {M : Type 0} (net : Net) (v counter : ℕ) (puts takens : ℕ → List (Stamped M))
    (entries : List (StampedEntry M)) : Type 0 where
  -- each entry has the stamp that the counter gives it
  pub stamped : AreStamped (came_to net v takens) entries
  -- the counter is at the stamp of the last
  pub counter_is : counter_of entries ≡ counter
  -- a wire that was put has the stamp of its put
  pub put_are : (i : ℕ) → i < degree_of net v → put_in entries (neighbour_of net v i) ≡ puts i

-- these lists by port are those, with one wire more at the end of that of port i
pub record OneMore {M : Type 0} (i : ℕ) (wire : Stamped M) (old new : ℕ → List (Stamped M)) : Type 0 where
  pub here : new i ≡ old i ++ (wire ∷ [])
  pub others : (j : ℕ) → (j ≡ i → ⊥) → old j ≡ new j

-- The entries took at most as many wires from each neighbour as its list has: as many, unless a wire was set aside.
abbrev pub HasTaken : {M : Type 0} → Net → ℕ → (ℕ → List (Stamped M)) → List (StampedEntry M) → Type 0
HasTaken net v takens entries =
    (i : ℕ) → i < degree_of net v → length (taken_in entries (neighbour_of net v i)) ≤ length (takens i)

-- each take is from a neighbour
abbrev pub TakesAreByPorts : {M : Type 0} → Net → ℕ → List (StampedEntry M) → Type 0
TakesAreByPorts net v entries = (w : ℕ) → (port_to net v w < degree_of net v → ⊥) → length (taken_in entries w) ≡ 0
