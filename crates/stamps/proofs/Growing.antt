-- One row more behind stamped rows in order.
use Rattle.std.proofs.Common.{◌≡◌, ◌<◌, List, [], ◌∷◌, ◌++◌, length, refl, sym, ap, ◌∙◌, ⊎_elim, arith, subst}
use Rattle.std.specs.Prelude.{All}
use Rattle.std.proofs.lemmas.List.{get_or_at, length-append}
use Rattle.std.proofs.lemmas.List.Elements.{All-cons, All-get_or, All-head, All-nil, All-push, All-tail}
use Rattle.entries.specs.declared.rows.StampedRow.{StampedRow}
use Rattle.stamps.specs.Merged.{AreOrdered, AreStampedRows, Precedes, stamp_behind}
use Rattle.stamps.proofs.Keeps.{split_push}

module _ {M : Type 0} where
  pub ordered_push : (rows : List (StampedRow M)) (row : StampedRow M) → AreOrdered rows → All (λ r. Precedes r row) rows
      → AreOrdered (rows ++ (row ∷ []))
  ordered_push [] row ordered below = (All-nil (Precedes row), tt)
  ordered_push (x ∷ rows) row ordered below = (
    All-push (Precedes x) rows row ordered.0 (All-head (λ (r : StampedRow M). Precedes r row) x rows below),
    ordered_push rows row ordered.1 (All-tail (λ (r : StampedRow M). Precedes r row) x rows below),
  )

  -- the rows before one of them come before it
  pub all_before : (before : List (StampedRow M)) (row : StampedRow M) (after : List (StampedRow M)) → AreOrdered (before ++ (row ∷ after))
      → All (λ r. Precedes r row) before
  all_before [] row after ordered = All-nil (λ (r : StampedRow M). Precedes r row)
  all_before (x ∷ before) row after ordered =
      let all = before ++ (row ∷ after) in
      let within : length before < length all = let n = length-append before (row ∷ after) in omega (arith, n) in
      let here : Precedes x row = subst (λ r. Precedes x r) (get_or_at before row after row (length before) refl)
      (All-get_or (Precedes x) all (length before) row within ordered.0) in
      All-cons (λ (r : StampedRow M). Precedes r row) x before here (all_before before row after ordered.1)

  pub stamped_push : (rows : List (StampedRow M)) (row : StampedRow M) → AreStampedRows rows → row.stamp ≡ stamp_behind rows row
      → AreStampedRows (rows ++ (row ∷ []))
  stamped_push rows row right is before x after split = ⊎_elim
      (λ last. ap (λ (y : StampedRow M). y.stamp) last.1 ∙ is ∙ ap (λ l. stamp_behind l row) (sym last.0) ∙ ap (λ y. stamp_behind before y) (sym last.1))
      (λ more. right before x more.0 more.1)
      (split_push rows row before x after split)

  pub stamped_none : AreStampedRows {M = M} []
  stamped_none before row after is = absurd (never before is)
    where
      never : (before : List (StampedRow M)) → [] ≡ before ++ (row ∷ after) → ⊥
      never [] is = absurd cc
      never (x ∷ before) is = absurd cc
