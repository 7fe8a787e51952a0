-- Distances in a network: how many links the shortest way from one vertex to another has.
use Rattle.std.specs.Prelude.{ℕ, ◌≤◌}
use Rattle.interference.specs.Net.{Net, IsVertex}
use Rattle.sync_rounds.specs.Reach.{IsWithinLinks}

-- w is reached from v, over however many links: the vertices that are reached from v are its component (AreClasses)
abbrev pub IsReached : Net → ℕ → ℕ → Type 0
IsReached net v w = (d : ℕ) × IsWithinLinks net d v w

-- Every vertex is in one component: to be reached is reflexive, symmetric and transitive, and leads to vertices.
pub record AreClasses (net : Net) : Type 0 where
  pub reflexive : (v : ℕ) → IsReached net v v
  pub symmetric : (v w : ℕ) → IsVertex net v → IsReached net v w → IsReached net w v
  pub transitive : (u v w : ℕ) → IsReached net u v → IsReached net v w → IsReached net u w
  pub vertices : (v w : ℕ) → IsVertex net v → IsReached net v w → IsVertex net w

-- The distance from v to w is d: w is reached from v over d links, and over no fewer.
pub record IsDistance (net : Net) (v w d : ℕ) : Type 0 where
  pub reached : IsWithinLinks net d v w
  pub least : (k : ℕ) → IsWithinLinks net k v w → d ≤ k
