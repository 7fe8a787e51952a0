-- Entries whose stamps rise have a merge: the rows, one after the other, are put where their stamps say.
use Rattle.std.proofs.Common.{◌≡◌, ◌⊎◌, ℕ, zero, suc, ◌<◌, ◌≤◌, List, [], ◌∷◌, refl, sym, ap, ◌∙◌, inl, inr, ⊎_elim, subst, arith}
use Rattle.std.specs.Prelude.{All}
use Rattle.std.proofs.lemmas.Bool.{cases_eq, cases_order, eq-eqb, ne_eqb}
use Rattle.std.proofs.lemmas.List.Elements.{All-head, All-tail, All-cons, All-nil, All-weaker}
use Rattle.entries.specs.declared.rows.StampedEntry.{StampedEntry}
use Rattle.entries.specs.declared.rows.StampedRow.{StampedRow}
use Rattle.entries.specs.Rows.{stamped_row, without_vertex}
use Rattle.stamps.specs.Stamps.{Rises}
use Rattle.stamps.specs.Merged.{AreOrdered, IsMerge, Precedes, entries_at}
use Rattle.stamps.proofs.Sorts.{through}

module _ {M : Type 0} where
  abbrev Within : ℕ → StampedRow M → Type 0
  Within n row = (1 ≤ row.vertex) × (row.vertex ≤ n)

  abbrev Above : ℕ → StampedEntry M → Type 0
  Above s e = s < e.stamp

  either : (a b : StampedRow M) → Precedes a b ⊎ Precedes b a
  either a b = ⊎_elim
      (λ same. ⊎_elim
      (λ e. inl (inr (same, omega (arith, e))))
      (λ side. ⊎_elim (λ lt. inl (inr (same, omega (arith, lt)))) (λ gt. inr (inr (sym same, omega (arith, gt)))) side)
      (cases_order a.vertex b.vertex))
      (λ side. ⊎_elim (λ lt. inl (inl lt)) (λ gt. inr (inl gt)) side)
      (cases_order a.stamp b.stamp)

  no_later : (a b : StampedRow M) → Precedes a b → b.stamp < a.stamp → ⊥
  no_later a b first gt = ⊎_elim (λ lt. omega (arith, lt, gt)) (λ same. let e = same.0 in omega (arith, e, gt)) first

  entry_here : (row : StampedRow M) (rows : List (StampedRow M)) (v : ℕ) → row.vertex ≡ v
      → entries_at (row ∷ rows) v ≡ without_vertex row ∷ entries_at rows v
  entry_here row rows v is = let yes = eq-eqb row.vertex v is in rw yes refl

  entry_other : (row : StampedRow M) (rows : List (StampedRow M)) (v : ℕ) → (row.vertex ≡ v → ⊥) → entries_at (row ∷ rows) v ≡ entries_at rows v
  entry_other row rows v ne = let no = ne_eqb row.vertex v ne in rw no refl

  -- one row more, before all rows of its vertex
  record Inserted (row : StampedRow M) (rows : List (StampedRow M)) : Type 0 where
    pub new : List (StampedRow M)
    pub ordered : AreOrdered new
    pub after : (x : StampedRow M) → Precedes x row → All (Precedes x) rows → All (Precedes x) new
    pub within : (n : ℕ) → Within n row → All (Within n) rows → All (Within n) new
    pub here : entries_at new row.vertex ≡ without_vertex row ∷ entries_at rows row.vertex
    pub others : (u : ℕ) → (row.vertex ≡ u → ⊥) → entries_at new u ≡ entries_at rows u

  inserted : (row : StampedRow M) (rows : List (StampedRow M)) → AreOrdered rows → All (Above row.stamp) (entries_at rows row.vertex) → Inserted row rows
  inserted row [] ordered above = record {
    new = row ∷ [];
    ordered = (All-nil (Precedes row), tt);
    after = λ x before all. All-cons (Precedes x) row [] before all;
    within = λ n is all. All-cons (Within n) row [] is all;
    here = entry_here row [] row.vertex refl;
    others = λ u ne. entry_other row [] u ne;
  }
  inserted row (r ∷ rows) ordered above = ⊎_elim
      (λ before. record {
        new = row ∷ r ∷ rows;
        ordered = (All-cons (Precedes row) r rows before (All-weaker (Precedes r) (Precedes row) (λ z p. through row r z before p) rows ordered.0), ordered);
        after = λ x p all. All-cons (Precedes x) row (r ∷ rows) p all;
        within = λ n is all. All-cons (Within n) row (r ∷ rows) is all;
        here = entry_here row (r ∷ rows) row.vertex refl;
        others = λ u ne. entry_other row (r ∷ rows) u ne;
      })
      (λ behind.
      let other : r.vertex ≡ row.vertex → ⊥ = λ is.
      no_later r row behind (All-head (Above row.stamp) (without_vertex r) (entries_at rows row.vertex)
      (subst (λ l. All (Above row.stamp) l) (entry_here r rows row.vertex is) above)) in
      let rest = inserted row rows ordered.1 (subst (λ l. All (Above row.stamp) l) (entry_other r rows row.vertex other) above) in
      record {
        new = r ∷ rest.new;
        ordered = (rest.after r behind ordered.0, rest.ordered);
        after = λ x p all. All-cons (Precedes x) r rest.new (All-head (Precedes x) r rows all) (rest.after x p (All-tail (Precedes x) r rows all));
        within = λ n is all. All-cons (Within n) r rest.new (All-head (Within n) r rows all) (rest.within n is (All-tail (Within n) r rows all));
        here = entry_other r rest.new row.vertex other ∙ rest.here
            ∙ ap (λ l. without_vertex row ∷ l) (sym (entry_other r rows row.vertex other));
        others = λ u ne. ⊎_elim
            (λ is. entry_here r rest.new u is ∙ ap (λ l. without_vertex r ∷ l) (rest.others u ne) ∙ sym (entry_here r rows u is))
            (λ not. entry_other r rest.new u not ∙ rest.others u ne ∙ sym (entry_other r rows u not))
            (cases_eq r.vertex u);
      })
      (either row r)

  -- all entries of a vertex that has none yet
  record Added (v n : ℕ) (entries : List (StampedEntry M)) (rows : List (StampedRow M)) : Type 0 where
    pub new : List (StampedRow M)
    pub ordered : AreOrdered new
    pub within : All (Within n) new
    pub here : entries_at new v ≡ entries
    pub others : (u : ℕ) → (v ≡ u → ⊥) → entries_at new u ≡ entries_at rows u

  added : (v n : ℕ) → 1 ≤ v → v ≤ n → (entries : List (StampedEntry M)) → Rises entries → (rows : List (StampedRow M)) → AreOrdered rows
      → All (Within n) rows → entries_at rows v ≡ [] → Added v n entries rows
  added v n low high [] rising rows ordered within none = record {
    new = rows;
    ordered = ordered;
    within = within;
    here = none;
    others = λ u ne. refl;
  }
  added v n low high (e ∷ entries) rising rows ordered within none =
      let rest = added v n low high entries rising.1 rows ordered within none in
      let row : StampedRow M = stamped_row e.stamp v e.entry in
      let more = inserted row rest.new rest.ordered (subst (λ l. All (Above e.stamp) l) (sym rest.here) rising.0) in
      record {
        new = more.new;
        ordered = more.ordered;
        within = more.within n (low, high) rest.within;
        here = more.here ∙ ap (λ l. e ∷ l) rest.here;
        others = λ u ne. more.others u ne ∙ rest.others u ne;
      }

  -- no row is of a vertex above all of theirs
  beyond : (n v : ℕ) (rows : List (StampedRow M)) → All (Within n) rows → n < v → entries_at rows v ≡ []
  beyond n v [] within gt = refl
  beyond n v (row ∷ rows) within gt =
      let le = (All-head (Within n) row rows within).1 in
      entry_other row rows v (λ is. omega (arith, is, le, gt)) ∙ beyond n v rows (All-tail (Within n) row rows within) gt

  record MergedTo (n : ℕ) (wrote : ℕ → List (StampedEntry M)) : Type 0 where
    pub rows : List (StampedRow M)
    pub ordered : AreOrdered rows
    pub within : All (Within n) rows
    pub each : (v : ℕ) → (1 ≤ v) × (v ≤ n) → entries_at rows v ≡ wrote v

  merged_to : (n : ℕ) (wrote : ℕ → List (StampedEntry M)) → ((v : ℕ) → (1 ≤ v) × (v ≤ n) → Rises (wrote v)) → MergedTo n wrote
  merged_to zero wrote rising = record {
    rows = [];
    ordered = tt;
    within = All-nil (Within 0);
    each = λ v is. let low = is.0 in let high = is.1 in absurd (omega (arith, low, high));
  }
  merged_to (suc n) wrote rising =
      let rest = merged_to n wrote (λ v is. let high = is.1 in rising v (is.0, omega (arith, high))) in
      let wider : All (Within (suc n)) rest.rows =
      All-weaker (Within n) (Within (suc n)) (λ row is. let high = is.1 in (is.0, omega (arith, high))) rest.rows rest.within in
      let more = added (suc n) (suc n) (omega arith) (omega arith) (wrote (suc n)) (rising (suc n) (omega arith, omega arith)) rest.rows rest.ordered wider
      (beyond n (suc n) rest.rows rest.within (omega arith)) in
      record {
        rows = more.new;
        ordered = more.ordered;
        within = more.within;
        each = λ v is. ⊎_elim
            (λ (e : suc n ≡ v). subst (λ u. entries_at more.new u ≡ wrote u) e more.here)
            (λ ne. more.others v ne ∙ rest.each v (is.0, below v (is.1) ne))
            (cases_eq (suc n) v);
      }
    where
      below : (v : ℕ) → v ≤ suc n → (suc n ≡ v → ⊥) → v ≤ n
      below v le ne = ⊎_elim (λ e. absurd (ne e)) (λ side. ⊎_elim (λ lt. absurd (omega (arith, lt, le))) (λ gt. omega (arith, gt)) side) (cases_order (suc n) v)

  -- the entries of the nodes 1 to n have a merge
  pub merge_of : (n : ℕ) (wrote : ℕ → List (StampedEntry M)) → ((v : ℕ) → (1 ≤ v) × (v ≤ n) → Rises (wrote v))
      → (rows : List (StampedRow M)) × IsMerge n wrote rows
  merge_of n wrote rising =
      let to = merged_to n wrote rising in
      (to.rows, record { ordered = to.ordered; vertices = to.within; each = to.each })
