-- The network of two nodes.
use Rattle.std.specs.Prelude.{[], ◌∷◌}
use Rattle.interference.specs.Net.{Net}

abbrev pub pair_net : Net
pair_net = record { ids = 1 ∷ 2 ∷ []; ports = (2 ∷ []) ∷ (1 ∷ []) ∷ []; bars = [] ∷ [] ∷ []; again = 0 }
