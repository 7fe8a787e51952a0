-- The greatest identifier of a component, and the one node that has it.
use Rattle.std.specs.Prelude.{◌≡◌, ℕ, ◌≤◌}
use Rattle.interference.specs.Net.{Net, IsVertex, id_of}
use Rattle.distances.specs.Distance.{IsReached}

-- This number is the identifier of a vertex that is reached from v, and no vertex that is reached has a greater one.
pub record IsGreatestReached (net : Net) (v best : ℕ) : Type 0 where
  pub reached : (w : ℕ) × IsVertex net w × IsReached net v w × (best ≡ id_of net w)
  pub bound : (w : ℕ) → IsReached net v w → id_of net w ≤ best

-- Nodes that know these identifiers have elected: in a component all know the same one, and it is that of exactly one
-- of its vertices.
pub record HaveElected (net : Net) (best : ℕ → ℕ) : Type 0 where
  pub same : (v w : ℕ) → IsVertex net v → IsReached net v w → best w ≡ best v
  pub leader : (v : ℕ) → IsVertex net v → (w : ℕ) × IsVertex net w × IsReached net v w × (id_of net w ≡ best v)
      × ((u : ℕ) → IsReached net v u → id_of net u ≡ best v → u ≡ w)
