-- How many rows a vertex has, and the channel that they give it.
use Rattle.std.proofs.Common.{◌≡◌, ◌≤◌, ◌+◌, ◌++◌, ◌∷◌, [], ◌⊎◌, inl, inr, ◌==◌, ◌∙◌, ℕ, zero, suc, Bool, true, false}
use Rattle.std.proofs.Common.{Some, None, List, arith, ap, ap₂, cond, count_by, is_some, refl}
use Rattle.std.proofs.lemmas.Bool.{eqb-true}
use Rattle.std.proofs.lemmas.List.Elements.{Contains-append_right}
use Rattle.std.proofs.lemmas.List.Recursion.{is_count_by}
use Rattle.std.specs.List.{Contains}
use Rattle.channel_plan.specs.Checked.{channel_of}
use Rattle.channel_plan.specs.Reading.{Row}

-- how many rows a vertex has
abbrev pub row_count : List Row → ℕ → ℕ
row_count [] v = 0
row_count (row ∷ rows) v = cond (row.0 == v) (1 + row_count rows v) (row_count rows v)

pub counted : (rows : List Row) (v : ℕ) → row_count rows v ≡ count_by (λ row. row.0 == v) rows
counted rows v = is_count_by (λ (all : List Row). row_count all v) (λ row. row.0 == v) refl (λ x xs. refl) rows

pub contains-cases : (first : Row) (rows : List Row) (row : Row) → Contains (first ∷ rows) row → (first ≡ row) ⊎ Contains rows row
contains-cases first rows row (zero, below, is) = inl is
contains-cases first rows row (suc k, below, is) = inr (k, omega arith, is)

pub same-vertex : (v : ℕ) → (v == v) ≡ true
same-vertex v = grind arith

pub count-append : (before rows : List Row) (v : ℕ) → row_count (before ++ rows) v ≡ row_count before v + row_count rows v
count-append [] rows v = omega arith
count-append (first ∷ before) rows v = one-more (first.0 == v) refl (count-append before rows v)
  where
    one-more : (b : Bool) → (first.0 == v) ≡ b → row_count (before ++ rows) v ≡ row_count before v + row_count rows v →
        row_count (first ∷ before ++ rows) v ≡ row_count (first ∷ before) v + row_count rows v
    one-more true e more = rw e (omega (arith, more))
    one-more false e more = rw e more

-- ---- a vertex that has a channel has a row
pub count-some : (rows : List Row) (v : ℕ) → is_some (channel_of rows v) ≡ true → 1 ≤ row_count rows v
count-some [] v e = absurd cc
count-some (first ∷ rows) v e = some-by (first.0 == v) refl e (count-some rows v)
  where
    some-by : (b : Bool) → (first.0 == v) ≡ b → is_some (channel_of (first ∷ rows) v) ≡ true → (is_some (channel_of rows v) ≡ true → 1 ≤ row_count rows v) →
        1 ≤ row_count (first ∷ rows) v
    some-by true t e more = rw t (omega arith)
    some-by false t e more = rw t (more (rw t at e))

pub some-count : (rows : List Row) (v : ℕ) → 1 ≤ row_count rows v → is_some (channel_of rows v) ≡ true
some-count [] v e = absurd (omega arith)
some-count (first ∷ rows) v e = some-by (first.0 == v) refl e (some-count rows v)
  where
    some-by : (b : Bool) → (first.0 == v) ≡ b → 1 ≤ row_count (first ∷ rows) v → (1 ≤ row_count rows v → is_some (channel_of rows v) ≡ true) →
        is_some (channel_of (first ∷ rows) v) ≡ true
    some-by true t e more = rw t refl
    some-by false t e more = rw t (more (rw t at e))

pub none-count : (rows : List Row) (v : ℕ) → row_count rows v ≡ 0 → channel_of rows v ≡ None
none-count [] v e = refl
none-count (first ∷ rows) v e = none-by (first.0 == v) refl e (none-count rows v)
  where
    none-by : (b : Bool) → (first.0 == v) ≡ b → row_count (first ∷ rows) v ≡ 0 → (row_count rows v ≡ 0 → channel_of rows v ≡ None) →
        channel_of (first ∷ rows) v ≡ None
    none-by true t e more = let z : 1 + row_count rows v ≡ 0 = (rw t at e) in absurd (omega arith)
    none-by false t e more = rw t (more (rw t at e))

-- ---- the row of a channel
pub contains-count : (rows : List Row) (v channel : ℕ) → Contains rows (v, channel) → 1 ≤ row_count rows v
contains-count [] v channel (k, below, is) = absurd (omega arith)
contains-count (first ∷ rows) v channel h = elim (contains-cases first rows (v, channel) h) [
  | inl is ↦ let e : (first.0 == v) ≡ true = ap (λ (row : Row). row.0 == v) is ∙ same-vertex v in rw e (omega arith)
  | inr more ↦ count-by (first.0 == v) refl (contains-count rows v channel more)
]
  where
    count-by : (b : Bool) → (first.0 == v) ≡ b → 1 ≤ row_count rows v → 1 ≤ row_count (first ∷ rows) v
    count-by true e more = rw e (omega arith)
    count-by false e more = rw e more

-- where a vertex has one row, its channel is the row's
pub channel-contains : (rows : List Row) (v channel : ℕ) → Contains rows (v, channel) → row_count rows v ≤ 1 → channel_of rows v ≡ Some channel
channel-contains [] v channel (k, below, is) few = absurd (omega arith)
channel-contains (first ∷ rows) v channel h few = elim (contains-cases first rows (v, channel) h) [
  | inl is ↦ let e : (first.0 == v) ≡ true = ap (λ (row : Row). row.0 == v) is ∙ same-vertex v in rw e (ap (λ (row : Row). Some row.1) is)
  | inr more ↦ channel-by (first.0 == v) refl few (contains-count rows v channel more) (channel-contains rows v channel more)
]
  where
    channel-by : (b : Bool) → (first.0 == v) ≡ b → row_count (first ∷ rows) v ≤ 1 → 1 ≤ row_count rows v →
        (row_count rows v ≤ 1 → channel_of rows v ≡ Some channel) → channel_of (first ∷ rows) v ≡ Some channel
    channel-by true e few some more = let two : 1 + row_count rows v ≤ 1 = (rw e at few) in absurd (omega arith)
    channel-by false e few some more = rw e (more (rw e at few))

pub contains-channel : (rows : List Row) (v channel : ℕ) → channel_of rows v ≡ Some channel → Contains rows (v, channel)
contains-channel [] v channel e = absurd cc
contains-channel (first ∷ rows) v channel e = contains-by (first.0 == v) refl e (contains-channel rows v channel)
  where
    contains-by : (b : Bool) → (first.0 == v) ≡ b → channel_of (first ∷ rows) v ≡ Some channel →
        (channel_of rows v ≡ Some channel → Contains rows (v, channel)) → Contains (first ∷ rows) (v, channel)
    contains-by true t e more =
        let some : Some first.1 ≡ Some channel = (rw t at e) in
        let same : first.1 ≡ channel = cc in
        let vertex : first.0 ≡ v = eqb-true first.0 v t in
        (0, omega arith, ap₂ (λ (a b : ℕ). (a, b)) vertex same)
    contains-by false t e more = Contains-append_right (first ∷ []) rows (v, channel) (more (rw t at e))
