-- The words of the colours that are chosen anew in texts.
use Rattle.std.specs.Prelude.{◌≡◌, ◌≢◌, ℕ, zero, suc, ◌+◌, ◌%◌, ◌<◌, ◌≤◌, [], Contains, codes}
use Rattle.interference.specs.Net.{Net, IsBarred, IsEdge, IsVertex, bars_of, bar_count_of, degree_of, neighbours}
use Rattle.interference.specs.Net.{repeated}
use Rattle.number_rows.specs.Row.{numbered}
use Rattle.program_texts.specs.Named.{NamedTexts, texts_of}
use Rattle.program_texts.specs.Texts.{ProgramTexts}
use Rattle.node_api.specs.Run.{last_state}
use Rattle.followed.specs.Followed.{Both}
use Rattle.colour_rules.specs.Node.{Node}
use Rattle.colour_laws.specs.Colours.{colours}
use Rattle.recolouring.specs.Knowing.{Recoloured, recolouring}

-- the colour of a node after as many passes: after none, that of the plan
abbrev pub plan_of_passes : ℕ → Net → ℕ → ℕ
plan_of_passes zero net v = colours net v
plan_of_passes (suc k) net v = (last_state recolouring (repeated k net) v).beside.colour

-- After a pass, and as many again as the network says, the colours are a plan that no node can lower alone: they differ
-- on every edge, none is barred at its node, each is at most the degree and the bars of its node, and each lower colour
-- is barred there or a neighbour's. None is above the greatest one before the last pass (`no_greater`), nor above the
-- greatest one of the plan (`never_more`), with bars, too. If nothing is barred, and the last pass is from the greatest
-- class down, a node's colours before and after it are together at most the greatest one before it (`no_more`).
pub record AreLowest (net : Net) (states : ℕ → Both Node Recoloured) : Type 0 where
  pub proper : (v w : ℕ) → IsEdge net v w → (states v).beside.colour ≢ (states w).beside.colour
  pub unbarred : (v : ℕ) → IsVertex net v → IsBarred net v (states v).beside.colour → ⊥
  pub within : (v : ℕ) → IsVertex net v → (states v).beside.colour ≤ degree_of net v + bar_count_of net v
  pub lowest : (v colour : ℕ) → IsVertex net v → colour < (states v).beside.colour → (IsBarred net v colour → ⊥)
      → (w : ℕ) × Contains (neighbours net v) w × ((states w).beside.colour ≡ colour)
  pub no_more : ((w : ℕ) → IsVertex net w → bars_of net w ≡ []) → net.again % 3 ≡ 0 → (greatest : ℕ)
      → ((w : ℕ) → IsVertex net w → plan_of_passes net.again net w ≤ greatest)
      → (v : ℕ) → IsVertex net v → (states v).beside.colour + plan_of_passes net.again net v ≤ greatest
  pub no_greater : (greatest : ℕ) → ((w : ℕ) → IsVertex net w → plan_of_passes net.again net w ≤ greatest)
      → (v : ℕ) → IsVertex net v → (states v).beside.colour ≤ greatest
  pub never_more : (greatest : ℕ) → ((w : ℕ) → IsVertex net w → colours net w ≤ greatest)
      → (v : ℕ) → IsVertex net v → (states v).beside.colour ≤ greatest

-- ` channel C`: one more than the new colour
abbrev pub recolouring_words : NamedTexts (Both Node Recoloured)
recolouring_words = record {
  name = codes "recolouring";
  found = λ s. numbered (codes " channel ") (s.beside.colour + 1);
  more = λ net v s. [];
  Solves = AreLowest;
}

-- all texts of the recolouring
abbrev pub recolouring_texts : ProgramTexts (Both Node Recoloured)
recolouring_texts = texts_of recolouring recolouring_words
