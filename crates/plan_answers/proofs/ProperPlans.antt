-- The rows of a channel plan are proper: each vertex has the row of its colour plus one, and no other.
use Rattle.std.proofs.Common.{◌≡◌, ◌≢◌, ◌<◌, ◌≤◌, ◌+◌, ◌^◌, ◌∷◌, ◌==◌, ◌∙◌, ℕ, zero, suc, Bool, true, false, All, arith, ap, get_or}
use Rattle.std.proofs.Common.{length, map, refl, subst, sym}
use Rattle.std.proofs.lemmas.Bool.{eqb-true, eqb-false, ne_eqb}
use Rattle.std.proofs.lemmas.List.{length-map}
use Rattle.std.proofs.lemmas.List.Elements.{All-map}
use Rattle.std.proofs.lemmas.List.FromFn.{get_or-map-range_with_len, length-map-range_with_len, length-range_with_len}
use Rattle.std.specs.List.{Contains, range_with_len}
use Rattle.interference.specs.Net.{IsBarred, IsEdge, IsNetwork, IsVertex, Net, count_of, span_of, vertices}
use Rattle.interference.proofs.Neighbours.{greatest_bars-within, greatest_degree-within}
use Rattle.channel_plan.specs.Checked.{IsProper}
use Rattle.channel_plan.specs.Reading.{Row, rows_of}
use Rattle.channel_plan.proofs.Counts.{counted, row_count}
use Rattle.channel_plan.proofs.Proper.{vertices-are}

-- the row of a vertex
abbrev row_at : (ℕ → ℕ) → ℕ → Row
row_at colour v = (v, colour v + 1)

rows-map : (colour : ℕ → ℕ) (a n : ℕ) → rows_of a (map colour (range_with_len a n)) ≡ map (row_at colour) (range_with_len a n)
rows-map colour a zero = refl
rows-map colour a (suc n) = ap (λ rows. row_at colour a ∷ rows) (rows-map colour (a + 1) n)

-- ---- each vertex has one row
none-above : (colour : ℕ → ℕ) (a n v : ℕ) → v < a → row_count (map (row_at colour) (range_with_len a n)) v ≡ 0
none-above colour a zero v below = refl
none-above colour a (suc n) v below = let no : (a == v) ≡ false = ne_eqb a v (omega arith) in rw no (none-above colour (a + 1) n v (omega arith))

one-among : (colour : ℕ → ℕ) (a n v : ℕ) → a ≤ v → v < a + n → row_count (map (row_at colour) (range_with_len a n)) v ≡ 1
one-among colour a zero v low high = absurd (omega arith)
one-among colour a (suc n) v low high = one-by (a == v) refl (λ l h. one-among colour (a + 1) n v l h)
  where
    one-by : (b : Bool) → (a == v) ≡ b → (a + 1 ≤ v → v < a + 1 + n → row_count (map (row_at colour) (range_with_len (a + 1) n)) v ≡ 1) →
        row_count (map (row_at colour) (range_with_len a (suc n))) v ≡ 1
    one-by true e more = let same = eqb-true a v e in rw e (ap (λ k. 1 + k) (none-above colour (a + 1) n v (omega (arith, same))))
    one-by false e more = let apart = eqb-false a v e in rw e (more (omega (arith, apart)) (omega arith))

-- ---- the rows are those of the vertices
contains-row : (net : Net) (colour : ℕ → ℕ) (row : Row) → Contains (map (row_at colour) (vertices net)) row → IsVertex net row.0 × (row.1 ≡ colour row.0 + 1)
contains-row net colour row (k, below, is) =
    let size : length (map (row_at colour) (vertices net)) ≡ count_of net = length-map-range_with_len (row_at colour) 1 (count_of net) in
    let inside : k < count_of net = omega (arith, size, below) in
    let at : row_at colour (1 + k) ≡ row = sym (get_or-map-range_with_len (row_at colour) 1 (count_of net) k (1 + k) row inside refl) ∙ is in
    let vertex : 1 + k ≡ row.0 = ap (λ (r : Row). r.0) at in
    let channel : colour (1 + k) + 1 ≡ row.1 = ap (λ (r : Row). r.1) at in
    ((omega (arith, vertex), omega (arith, vertex, inside)), sym channel ∙ ap (λ v. colour v + 1) vertex)

-- what a channel plan promises of its colours
pub record AreChannels (net : Net) (colour : ℕ → ℕ) : Type 0 where
  pub differ : (v w : ℕ) → IsEdge net v w → colour v ≢ colour w
  pub within : (v : ℕ) → IsVertex net v → colour v ≤ span_of net
  pub unbarred : (v : ℕ) → IsVertex net v → IsBarred net v (colour v) → ⊥

pub proper-rows : (net : Net) (colour : ℕ → ℕ) → IsNetwork net → AreChannels net colour → IsProper net (rows_of 1 (map colour (vertices net)))
proper-rows net colour ok is = subst (IsProper net) (sym (rows-map colour 1 (count_of net))) (record {
  one_row = λ v h. sym (counted (map (row_at colour) (vertices net)) v) ∙ one-among colour 1 (count_of net) v h.0 (omega (arith, h.1));
  no_stranger = λ row h. (contains-row net colour row h).0;
  within = λ row h. let r = contains-row net colour row h in omega (arith, r.1, is.within row.0 r.0);
  unbarred = λ v c h barred.
      let r = contains-row net colour (v, c + 1) h in
      let same : c ≡ colour v = omega (arith, r.1) in
      is.unbarred v r.0 (subst (IsBarred net v) same barred);
  differ = λ v w channel edge hv hw.
      let left = contains-row net colour (v, channel) hv in
      let right = contains-row net colour (w, channel) hw in
      is.differ v w edge (omega (arith, left.1, right.1));
})

-- ---- the numbers of a channel plan are small
pub few-vertices : (net : Net) (colour : ℕ → ℕ) → IsNetwork net → 1 + length (map colour (vertices net)) ≤ 2 ^ 32
few-vertices net colour ok = omega (arith, length-map (vertices net) colour, length-range_with_len 1 (count_of net), ok.count)

pub small-colours : (net : Net) (colour : ℕ → ℕ) → IsNetwork net → AreChannels net colour → All (λ c. c + 1 < 2 ^ 32) (map colour (vertices net))
small-colours net colour ok is =
    All-map (λ c. c + 1 < 2 ^ 32) colour (vertices net) (λ k d below.
    omega (arith, is.within (get_or (vertices net) k d) (vertices-are net k d below), greatest_degree-within net ok, greatest_bars-within net ok))
