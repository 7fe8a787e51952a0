-- What rows behind rows put and take.
use Rattle.std.proofs.Common.{◌≡◌, ℕ, ◌≤◌, ◌==◌, List, [], ◌∷◌, ◌++◌, refl, sym, ap, ◌∙◌, ⊎_elim, append_assoc, arith}
use Rattle.std.specs.Prelude.{◌&&◌}
use Rattle.entries.specs.declared.rows.StampedRow.{StampedRow}
use Rattle.stamps.specs.Stamps.{put_if, taken_if}
use Rattle.stamps.specs.Merged.{AreOrdered, Precedes, puts_at, takes_at}

module _ {M : Type 0} where
  pub puts_append : (xs ys : List (StampedRow M)) (v w : ℕ) → puts_at (xs ++ ys) v w ≡ puts_at xs v w ++ puts_at ys v w
  puts_append [] ys v w = refl
  puts_append (row ∷ xs) ys v w =
      let first = put_if (λ to. (row.vertex == v) && (to == w)) row.stamp row.entry in
      ap (λ l. first ++ l) (puts_append xs ys v w) ∙ sym (append_assoc first (puts_at xs v w) (puts_at ys v w))

  pub takes_append : (xs ys : List (StampedRow M)) (v w : ℕ) → takes_at (xs ++ ys) v w ≡ takes_at xs v w ++ takes_at ys v w
  takes_append [] ys v w = refl
  takes_append (row ∷ xs) ys v w =
      let first = taken_if (λ from. (row.vertex == v) && (from == w)) row.stamp row.entry in
      ap (λ l. first ++ l) (takes_append xs ys v w) ∙ sym (append_assoc first (takes_at xs v w) (takes_at ys v w))

  pub rest_ordered : (before rows : List (StampedRow M)) → AreOrdered (before ++ rows) → AreOrdered rows
  rest_ordered [] rows ordered = ordered
  rest_ordered (row ∷ before) rows ordered = rest_ordered before rows ordered.1

  -- a row that may come before another has no greater stamp
  pub not_above : (a b : StampedRow M) → Precedes a b → a.stamp ≤ b.stamp
  not_above a b before = ⊎_elim (λ less. omega (arith, less)) (λ same. let e = same.0 in omega (arith, e)) before
