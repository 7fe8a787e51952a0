-- The command that was found, from its name and its rows.
use Rattle.std.proofs.Common.{◌≡◌, List, Option, None, Some, option_map, refl}
use Rattle.clap.specs.Words.{Row, Text}

abbrev rows_with : Text × List Row → List Row
rows_with entered = entered.1

module _ {X : Type 0} (name_of : X → Text) (rows_of : X → List Row) where
  abbrev entered_of : X → Text × List Row
  entered_of x = (name_of x, rows_of x)

  pub entered-row : (sub : Option X) (name : Text) (rows : List Row) → Some name ≡ option_map name_of sub
      → Some rows ≡ option_map rows_with (option_map entered_of sub) → option_map entered_of sub ≡ Some (name, rows)
  entered-row None name rows n r = absurd cc
  entered-row (Some x) name rows n r =
      let same_name : name ≡ name_of x = cc in
      let same_rows : rows ≡ rows_of x = cc in
      rw (same_name, same_rows) refl
