-- What a channel plan of a network is.
use Rattle.std.specs.Prelude.{◌≡◌, ◌≢◌, ◌≤◌, ℕ, List, map}
use Rattle.interference.specs.Net.{Net, IsBarred, IsEdge, IsVertex, span_of, vertices}
use Rattle.channel_plan.specs.PlanText.{plan_of}

-- The text has a row for each vertex, with its colour plus one as its channel. The colours of any two
-- neighbours differ, none is above Δ + B, and none is barred at its vertex: so each channel is at most Δ + B + 1.
pub record IsChannelPlan (net : Net) (text : List ℕ) : Type 0 where
  pub colour : ℕ → ℕ
  pub rows : text ≡ plan_of (map colour (vertices net))
  pub differ : (v w : ℕ) → IsEdge net v w → colour v ≢ colour w
  pub within : (v : ℕ) → IsVertex net v → colour v ≤ span_of net
  pub unbarred : (v : ℕ) → IsVertex net v → IsBarred net v (colour v) → ⊥
