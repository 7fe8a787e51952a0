-- The entries of all nodes, taken one by one, are a merge.
use Rattle.std.proofs.Common.{◌≡◌, ◌∙◌, ℕ, suc, ◌+◌, ◌-◌, ◌<◌, ◌≤◌, List, [], ◌∷◌, ◌++◌, length, get_or, set, refl, sym, ap, append_assoc, subst}
use Rattle.std.proofs.Common.{arith, ⊎_elim, inl}
use Rattle.std.specs.Prelude.{All, flat_map}
use Rattle.std.specs.List.{sum_by}
use Rattle.std.proofs.lemmas.List.Sums.{sum_by-set}
use Rattle.std.proofs.lemmas.Bool.{cases_eq, cases_lt}
use Rattle.std.proofs.lemmas.List.{append-nil, get_or-set_other, get_or-set_same, length-set}
use Rattle.std.proofs.lemmas.List.Elements.{All-get_or, All-head, All-nil, All-push, All-weaker}
use Rattle.std.proofs.Math.ListN.{get_or-eq_default}
use Rattle.entries.specs.declared.entry.Entry.{Entry}
use Rattle.entries.specs.Rows.{stamped_entry, stamped_row}
use Rattle.entries.specs.declared.rows.StampedEntry.{StampedEntry}
use Rattle.stamps.specs.Stamps.{Rises}
use Rattle.entries.specs.declared.rows.StampedRow.{StampedRow}
use Rattle.stamps.specs.Merged.{AreOrdered, IsMerge, Precedes, entries_at, list_of}
use Rattle.program_texts.specs.PayloadTexts.{PayloadTexts}
use Rattle.transcripts.specs.TranscriptText.{stamped_row_text}
use Rattle.transcripts.specs.Merge.{IsTaken, NoneLeft}
use Rattle.stamps.proofs.Growing.{ordered_push}
use Rattle.stamps.proofs.Lists.{entry_here, entry_other}
use Rattle.stamps.proofs.Sorts.{through}
use Rattle.stamps.proofs.Unique.{entries_append}

module _ {M : Type 0} where
  -- The rows are in order, and so is what is left of each node behind those of its vertex, which were written; none of the rows comes
  -- after what is left.
  pub record IsMerging (wrote lefts : List (List (StampedEntry M))) (rows : List (StampedRow M)) : Type 0 where
    pub ordered : AreOrdered rows
    pub vertices : All (λ row. (1 ≤ row.vertex) × (row.vertex ≤ length wrote)) rows
    pub many : length lefts ≡ length wrote
    pub each : (i : ℕ) → entries_at rows (i + 1) ++ get_or lefts i [] ≡ get_or wrote i []
    pub behind : (i : ℕ) (e : StampedEntry M) (more : List (StampedEntry M)) → get_or lefts i [] ≡ e ∷ more
        → All (λ row. Precedes row (stamped_row e.stamp (i + 1) e.entry)) rows
    pub rises : (i : ℕ) → Rises (get_or lefts i [])

  -- a row may come before another
  abbrev Before : StampedRow M → StampedRow M → Type 0
  Before row r = Precedes r row

  -- at first everything is left
  pub merging-init : (wrote : List (List (StampedEntry M))) → All Rises wrote → IsMerging wrote wrote []
  merging-init wrote rising = record {
    ordered = tt;
    vertices = All-nil (λ (row : StampedRow M). (1 ≤ row.vertex) × (row.vertex ≤ length wrote));
    many = refl;
    each = λ i. refl;
    behind = λ i e more is. All-nil (Before (stamped_row e.stamp (i + 1) e.entry));
    rises = λ i. ⊎_elim
        (λ lt. All-get_or Rises wrote i [] lt rising)
        (λ le. subst Rises (sym (get_or-eq_default wrote [] le)) tt)
        (cases_lt i (length wrote));
  }

  -- what a vertex has in the rows with one more
  at_here : (rows : List (StampedRow M)) (s v : ℕ) (e : Entry M)
      → entries_at (rows ++ (stamped_row s v e ∷ [])) v ≡ entries_at rows v ++ (stamped_entry s e ∷ [])
  at_here rows s v e = entries_append rows (stamped_row s v e ∷ []) v ∙ ap (λ l. entries_at rows v ++ l) (entry_here s v e [])

  at_other : (rows : List (StampedRow M)) (s v u : ℕ) (e : Entry M) → (u ≡ v → ⊥) → entries_at (rows ++ (stamped_row s v e ∷ [])) u ≡ entries_at rows u
  at_other rows s v u e ne =
      entries_append rows (stamped_row s v e ∷ []) u ∙ ap (λ l. entries_at rows u ++ l) (entry_other s v u e [] ne) ∙ append-nil (entries_at rows u)

  -- the first entry of list i is taken, and none of the lists begins before it
  module _ (wrote lefts : List (List (StampedEntry M))) (rows : List (StampedRow M)) (i s : ℕ) (e : Entry M) (left : List (StampedEntry M))
      (so_far : IsMerging wrote lefts rows) (within : i < length lefts) (was : get_or lefts i [] ≡ stamped_entry s e ∷ left)
      (least : (j : ℕ) (later : StampedEntry M) (more : List (StampedEntry M)) → get_or lefts j [] ≡ later ∷ more
      → Precedes (stamped_row s (i + 1) e) (stamped_row later.stamp (j + 1) later.entry))
    where
      abbrev row : StampedRow M
      row = stamped_row s (i + 1) e

      here : get_or (set lefts i left) i [] ≡ left
      here = get_or-set_same lefts i left [] within

      other : (j : ℕ) → (j ≡ i → ⊥) → get_or (set lefts i left) j [] ≡ get_or lefts j []
      other j ne = get_or-set_other lefts i j left [] ne

      step_each : (j : ℕ) → entries_at (rows ++ (row ∷ [])) (j + 1) ++ get_or (set lefts i left) j [] ≡ get_or wrote j []
      step_each j = ⊎_elim
          (λ is. subst (λ k. entries_at (rows ++ (row ∷ [])) (k + 1) ++ get_or (set lefts i left) k [] ≡ get_or wrote k []) (sym is)
          (ap (λ l. l ++ get_or (set lefts i left) i []) (at_here rows s (i + 1) e) ∙ ap (λ l. (entries_at rows (i + 1) ++ (stamped_entry s e ∷ [])) ++ l) here
          ∙ append_assoc (entries_at rows (i + 1)) (stamped_entry s e ∷ []) left ∙ ap (λ l. entries_at rows (i + 1) ++ l) (sym was) ∙ so_far.each i))
          (λ ne. ap (λ l. l ++ get_or (set lefts i left) j []) (at_other rows s (i + 1) (j + 1) e (λ same. ne (omega (arith, same))))
          ∙ ap (λ l. entries_at rows (j + 1) ++ l) (other j ne) ∙ so_far.each j)
          (cases_eq j i)

      -- those behind the entry have greater stamps
      rises_here : Rises (stamped_entry s e ∷ left)
      rises_here = subst Rises was (so_far.rises i)

      all_before : All (Before row) rows
      all_before = so_far.behind i (stamped_entry s e) left was

      step_behind : (j : ℕ) (later : StampedEntry M) (more : List (StampedEntry M)) → get_or (set lefts i left) j [] ≡ later ∷ more
          → All (Before (stamped_row later.stamp (j + 1) later.entry)) (rows ++ (row ∷ []))
      step_behind j later more begins = ⊎_elim
          (λ is.
          let first : left ≡ later ∷ more = sym here ∙ ap (λ k. get_or (set lefts i left) k []) (sym is) ∙ begins in
          let lt : s < later.stamp =
          All-head (λ (l : StampedEntry M). s < l.stamp) later more (subst (All (λ (l : StampedEntry M). s < l.stamp)) first rises_here.0) in
          let next : StampedRow M = stamped_row later.stamp (j + 1) later.entry in
          All-push (Before next) rows row (All-weaker (Before row) (Before next) (λ r before. through r row next before (inl lt)) rows all_before) (inl lt))
          (λ ne.
          let begins' : get_or lefts j [] ≡ later ∷ more = sym (other j ne) ∙ begins in
          All-push (Before (stamped_row later.stamp (j + 1) later.entry)) rows row (so_far.behind j later more begins') (least j later more begins'))
          (cases_eq j i)

      step_rises : (j : ℕ) → Rises (get_or (set lefts i left) j [])
      step_rises j = ⊎_elim
          (λ is. subst (λ k. Rises (get_or (set lefts i left) k [])) (sym is) (subst Rises (sym here) rises_here.1))
          (λ ne. subst Rises (sym (other j ne)) (so_far.rises j))
          (cases_eq j i)

      step : IsMerging wrote (set lefts i left) (rows ++ (row ∷ []))
      step = record {
        ordered = ordered_push rows row so_far.ordered all_before;
        vertices = let many = so_far.many in All-push (λ (r : StampedRow M). (1 ≤ r.vertex) × (r.vertex ≤ length wrote)) rows row so_far.vertices
            (omega arith, omega (arith, within, many));
        many = length-set lefts i left ∙ so_far.many;
        each = step_each;
        behind = step_behind;
        rises = step_rises;
      }

  -- one row more is taken
  pub merging-step : (wrote old new : List (List (StampedEntry M))) (rows : List (StampedRow M)) (row : StampedRow M) → IsMerging wrote old rows
      → IsTaken old new row → IsMerging wrote new (rows ++ (row ∷ []))
  merging-step wrote old new rows row so_far taken =
      let i = taken.index in
      let s = row.stamp in
      let e = row.entry in
      let least = subst (λ u. (j : ℕ) (later : StampedEntry M) (more : List (StampedEntry M)) → get_or old j [] ≡ later ∷ more
      → Precedes (stamped_row s u e) (stamped_row later.stamp (j + 1) later.entry)) taken.vertex taken.least in
      subst (λ lefts. IsMerging wrote lefts (rows ++ (row ∷ []))) (sym taken.is)
      (subst (λ u. IsMerging wrote (set old i taken.behind) (rows ++ (stamped_row s u e ∷ []))) (sym taken.vertex)
      (step wrote old rows i s e taken.behind so_far taken.within taken.was least))

  -- at the end nothing is left
  pub merging-done : (wrote lefts : List (List (StampedEntry M))) (rows : List (StampedRow M)) → IsMerging wrote lefts rows → NoneLeft lefts
      → IsMerge (length wrote) (list_of wrote) rows
  merging-done wrote lefts rows so_far none = record {
    ordered = so_far.ordered;
    vertices = so_far.vertices;
    each = λ v vertex.
        let low = vertex.0 in
        let back : (v - 1) + 1 ≡ v = omega (arith, low) in
        ap (λ u. entries_at rows u) (sym back) ∙ sym (append-nil (entries_at rows ((v - 1) + 1)))
        ∙ ap (λ l. entries_at rows ((v - 1) + 1) ++ l) (sym (none (v - 1))) ∙ so_far.each (v - 1);
  }

  -- fewer entries are left
  pub fewer : (old new : List (List (StampedEntry M))) (row : StampedRow M) → IsTaken old new row → sum_by length new < sum_by length old
  fewer old new row taken =
      let i = taken.index in
      let all = sum_by-set {X = List (StampedEntry M)} length old i taken.behind [] taken.within in
      let was : length (get_or old i []) ≡ suc (length taken.behind) = ap length taken.was in
      subst (λ l. sum_by length l < sum_by length old) (sym taken.is) (omega (arith, all, was))

-- a text has the lines of rows that are taken of these lists, behind another text
abbrev pub HasMerged : {M : Type 0} → PayloadTexts M → List (List (StampedEntry M)) → List (List (StampedEntry M)) → List ℕ → List ℕ → Type 0
HasMerged {M} payloads wrote lefts old new =
    (rows : List (StampedRow M)) × IsMerging wrote lefts rows × (new ≡ old ++ flat_map (stamped_row_text payloads) rows)
