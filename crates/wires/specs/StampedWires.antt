-- Wires with their stamps.
use Rattle.std.specs.Prelude.{ℕ, ◌<◌, List, [], ◌∷◌, map}
use Rattle.wires.specs.declared.stamped.Stamped.{Stamped}
use Rattle.wires.specs.declared.wire.Wire.{Wire}

module _ {M : Type 0} where
  -- a wire with a stamp
  abbrev pub stamped : ℕ → Wire M → Stamped M
  stamped s wire = record { stamp = s; wire = wire }

  -- the wires without their stamps, and the stamps without the wires
  abbrev pub wires_of : List (Stamped M) → List (Wire M)
  wires_of wires = map (λ x. x.wire) wires

  abbrev pub stamps_of : List (Stamped M) → List ℕ
  stamps_of wires = map (λ x. x.stamp) wires

  -- the stamp of the last of the wires, or s if there are none
  abbrev pub last_from : ℕ → List (Stamped M) → ℕ
  last_from s [] = s
  last_from s (x ∷ xs) = last_from x.stamp xs

  -- the stamp of the last of the wires, or 0 if there are none
  abbrev pub last_stamp : List (Stamped M) → ℕ
  last_stamp wires = last_from 0 wires

  -- the stamp of the first wire is above s, and that of each further wire above that of the wire before it
  abbrev pub RiseFrom : ℕ → List (Stamped M) → Type 0
  RiseFrom s [] = Unit {0}
  RiseFrom s (x ∷ xs) = (s < x.stamp) × RiseFrom x.stamp xs

  -- The stamps are above 0 and rise.
  abbrev pub StampsRise : List (Stamped M) → Type 0
  StampsRise wires = RiseFrom 0 wires
