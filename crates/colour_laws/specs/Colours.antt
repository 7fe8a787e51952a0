-- The colours of a network: three colours of each forest, merged forest by forest.
use Rattle.std.specs.Prelude.{◌≡◌, ◌≢◌, ◌≤◌, ℕ, zero, suc, Bool, Option}
use Rattle.interference.specs.Net.{Net, IsBarred, IsEdge, IsVertex, bars_of, id_of, neighbours, forest_count_of}
use Rattle.interference.specs.Net.{span_of}
use Rattle.forests.specs.Forests.{parent, number}
use Rattle.cole_vishkin.specs.BitStep.{six}
use Rattle.shift_down.specs.Steps.{three_from}
use Rattle.forest_merge.specs.Free.{is_among, least_free_colour}
use Rattle.forest_merge.specs.Merge.{Merging, merge}

-- the three colours of a forest: six by bit steps from the identifiers, and three of these by shifting down
abbrev pub three : (ℕ → Option ℕ) → (ℕ → ℕ) → ℕ → ℕ
three parents ids = three_from parents (six parents ids)

-- whether a colour is barred at v
abbrev pub is_barred : Net → ℕ → ℕ → Bool
is_barred net v = is_among (bars_of net v)

-- forest f merged with those before it, of which these are the colours
abbrev pub merging : Net → ℕ → (ℕ → ℕ) → Merging
merging net f old =
    record {
      neighbours = neighbours net;
      barred = is_barred net;
      number = number net;
      limit = span_of net;
      forest = f;
      three = three (parent net f) (id_of net);
      old = old;
    }

-- the colours after the first f forests; before the first each vertex has its least colour that isn't barred
unfoldable pub colours_after : Net → ℕ → ℕ → ℕ
colours_after net zero v = least_free_colour (span_of net) (is_barred net v)
colours_after net (suc f) v = merge (merging net f (colours_after net f)) v

-- the colours of the network: those after all its forests
abbrev pub colours : Net → ℕ → ℕ
colours net v = colours_after net (forest_count_of net) v

-- These are the colours of the network; so neighbours differ, each colour is from 0 to the span, and none is barred at
-- its vertex.
pub record AreColours (net : Net) (colour : ℕ → ℕ) : Type 0 where
  pub exact : (v : ℕ) → IsVertex net v → colour v ≡ colours net v
  pub proper : (v w : ℕ) → IsEdge net v w → colour v ≢ colour w
  pub within : (v : ℕ) → IsVertex net v → colour v ≤ span_of net
  pub unbarred : (v : ℕ) → IsVertex net v → IsBarred net v (colour v) → ⊥
