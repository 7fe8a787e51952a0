-- A set of bars with the number of bars of each vertex, as the reader keeps it.
use Rattle.std.specs.Prelude.{ℕ, ◌≡◌, ◌≤◌, unwrap_or}
use Rattle.std.specs.BTreeMap.{get}
use Rattle.std.specs.Ordering.{nat_cmp}
use Rattle.graph_limits.specs.Pairs.{bars_at}
use Rattle.dimacs_col.specs.declared.bars.BarSet.{BarSet}
use Rattle.graph_limits.specs.declared.limits.TheConstants.{MAX_BARS}

-- the number that a set keeps for a vertex; it keeps none for a vertex without bars
abbrev pub count_in : BarSet → ℕ → ℕ
count_in set v = unwrap_or (get nat_cmp set.counts v) 0

-- each number is that of the bars of the vertex, and within the limit
pub record IsCounted (set : BarSet) : Type 0 where
  pub each : (v : ℕ) → count_in set v ≡ bars_at set.bars.keys v
  pub few : (v : ℕ) → bars_at set.bars.keys v ≤ MAX_BARS
