-- The lists that are read off rows and off entries.
use Rattle.std.proofs.Common.{◌≡◌, ℕ, ◌≤◌, ◌==◌, false, List, [], ◌∷◌, ◌++◌, refl, sym, ap, ◌∙◌, ⊎_elim, inl, inr, arith}
use Rattle.std.specs.Prelude.{Bool, ◌&&◌, ◌⊎◌, All}
use Rattle.std.proofs.lemmas.Bool.{cases_Bool, cases_eq, eq-eqb, ne_eqb}
use Rattle.std.proofs.lemmas.List.Elements.{All-head, All-tail}
use Rattle.wires.specs.declared.stamped.Stamped.{Stamped}
use Rattle.wires.specs.declared.wire.Wire.{Wire}
use Rattle.entries.specs.declared.entry.Entry.{Entry}
use Rattle.entries.specs.declared.entry.Entry.TheVariants.{Pulse, Put, Take}
use Rattle.entries.specs.declared.rows.StampedRow.{StampedRow}
use Rattle.wires.specs.StampedWires.{stamped}
use Rattle.entries.specs.Rows.{stamped_entry, stamped_row}
use Rattle.stamps.specs.Stamps.{put_if, put_in, taken_if, taken_in}
use Rattle.stamps.specs.Merged.{Precedes, entries_at, puts_at, takes_at}
use Rattle.stamps.proofs.Appends.{not_above}

module _ {M : Type 0} where
  -- ---- by rows, and by the entries of a vertex
  pub puts_are : (rows : List (StampedRow M)) (v w : ℕ) → puts_at rows v w ≡ put_in (entries_at rows v) w
  puts_are [] v w = refl
  puts_are (row ∷ rows) v w = ⊎_elim
      (λ yes. rw yes (ap (λ l. put_if (λ to. to == w) row.stamp row.entry ++ l) (puts_are rows v w)))
      (λ no. rw no (ap (λ l. l ++ puts_at rows v w) (put_never row.stamp row.entry) ∙ puts_are rows v w))
      (cases_Bool (row.vertex == v))
    where
      put_never : (s : ℕ) (e : Entry M) → put_if (λ to. false) s e ≡ []
      put_never s (Pulse p) = refl
      put_never s (Put to x) = refl
      put_never s (Take from x) = refl

  pub takes_are : (rows : List (StampedRow M)) (v w : ℕ) → takes_at rows v w ≡ taken_in (entries_at rows v) w
  takes_are [] v w = refl
  takes_are (row ∷ rows) v w = ⊎_elim
      (λ yes. rw yes (ap (λ l. taken_if (λ from. from == w) row.stamp row.entry ++ l) (takes_are rows v w)))
      (λ no. rw no (ap (λ l. l ++ takes_at rows v w) (taken_never row.stamp row.entry) ∙ takes_are rows v w))
      (cases_Bool (row.vertex == v))
    where
      taken_never : (s : ℕ) (e : Entry M) → taken_if (λ from. false) s e ≡ []
      taken_never s (Pulse p) = refl
      taken_never s (Put to x) = refl
      taken_never s (Take from x) = refl

  -- ---- the first row
  pub entry_here : (s v : ℕ) (e : Entry M) (rows : List (StampedRow M)) → entries_at (stamped_row s v e ∷ rows) v ≡ stamped_entry s e ∷ entries_at rows v
  entry_here s v e rows = let yes = eq-eqb v v refl in rw yes refl

  pub entry_other : (s v u : ℕ) (e : Entry M) (rows : List (StampedRow M)) → (u ≡ v → ⊥) → entries_at (stamped_row s v e ∷ rows) u ≡ entries_at rows u
  entry_other s v u e rows ne = let no = ne_eqb v u (λ same. ne (sym same)) in rw no refl

  pub put_here : (s v w : ℕ) (x : Wire M) (rows : List (StampedRow M)) → puts_at (stamped_row s v (Put w x) ∷ rows) v w ≡ stamped s x ∷ puts_at rows v w
  put_here s v w x rows = let yes = eq-eqb v v refl in let there = eq-eqb w w refl in rw yes (rw there refl)

  pub put_other : (s v w u k : ℕ) (x : Wire M) (rows : List (StampedRow M)) → (u ≡ v → k ≡ w → ⊥)
      → puts_at (stamped_row s v (Put w x) ∷ rows) u k ≡ puts_at rows u k
  put_other s v w u k x rows apart = ⊎_elim
      (λ same. let no = ne_eqb w k (λ e. apart same (sym e)) in let yes = eq-eqb v u (sym same) in rw yes (rw no refl))
      (λ ne. let no = ne_eqb v u (λ e. ne (sym e)) in rw no refl)
      (cases_eq u v)

  pub take_here : (s v w : ℕ) (x : Wire M) (rows : List (StampedRow M)) → takes_at (stamped_row s v (Take w x) ∷ rows) v w ≡ stamped s x ∷ takes_at rows v w
  take_here s v w x rows = let yes = eq-eqb v v refl in let there = eq-eqb w w refl in rw yes (rw there refl)

  pub take_other : (s v w u k : ℕ) (x : Wire M) (rows : List (StampedRow M)) → (u ≡ v → k ≡ w → ⊥)
      → takes_at (stamped_row s v (Take w x) ∷ rows) u k ≡ takes_at rows u k
  take_other s v w u k x rows apart = ⊎_elim
      (λ same. let no = ne_eqb w k (λ e. apart same (sym e)) in let yes = eq-eqb v u (sym same) in rw yes (rw no refl))
      (λ ne. let no = ne_eqb v u (λ e. ne (sym e)) in rw no refl)
      (cases_eq u v)

  -- what an entry puts is nothing, or one wire with its stamp
  pub none_or_one : (goes : ℕ → Bool) (s : ℕ) (e : Entry M) → (put_if goes s e ≡ []) ⊎ ((x : Wire M) × (put_if goes s e ≡ stamped s x ∷ []))
  none_or_one goes s (Pulse p) = inl refl
  none_or_one goes s (Put to x) = ⊎_elim (λ yes. inr (x, rw yes refl)) (λ no. inl (rw no refl)) (cases_Bool (goes to))
  none_or_one goes s (Take from x) = inl refl

  -- the first put behind it has none that is less
  pub first_put : (row : StampedRow M) (rows : List (StampedRow M)) (v w : ℕ) (x : Stamped M) (more : List (Stamped M))
      → All (Precedes row) rows → puts_at rows v w ≡ x ∷ more → row.stamp ≤ x.stamp
  first_put row [] v w x more before is = absurd cc
  first_put row (first ∷ rows) v w x more before is = ⊎_elim
      (λ none.
      let rest : puts_at rows v w ≡ x ∷ more = ap (λ l. l ++ puts_at rows v w) (sym none) ∙ is in
      first_put row rows v w x more (All-tail (Precedes row) first rows before) rest)
      (λ one.
      let both : stamped first.stamp one.0 ∷ puts_at rows v w ≡ x ∷ more = ap (λ l. l ++ puts_at rows v w) (sym one.1) ∙ is in
      let same : first.stamp ≡ x.stamp = cc in
      let le : row.stamp ≤ first.stamp = not_above row first (All-head (Precedes row) first rows before) in
      omega (arith, same, le))
      (none_or_one (λ to. (first.vertex == v) && (to == w)) first.stamp first.entry)
