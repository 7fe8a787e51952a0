-- One stamped row more behind a replay.
use Rattle.std.proofs.Common.{◌≡◌, ℕ, suc, ◌+◌, ◌<◌, ◌∙◌, List, [], ◌∷◌, ◌++◌, take, length, get_or, Some, Ok, ap, arith, sym, subst}
use Rattle.std.proofs.lemmas.List.{get_or-map, length-map, take-map}
use Rattle.interference.specs.Net.{Net}
use Rattle.node_api.specs.Program.{Program}
use Rattle.entries.specs.Rows.{without_stamp}
use Rattle.entries.specs.declared.rows.Row.{Row}
use Rattle.entries.specs.declared.rows.StampedRow.{StampedRow}
use Rattle.stamps.specs.Merged.{AreOrdered, AreStampedRows, IsInPlace, rows_in}
use Rattle.stamps.proofs.Growing.{ordered_push, stamped_none, stamped_push}
use Rattle.event_rule.specs.Replays.{IsReplay}
use Rattle.event_rule.specs.Rows.{event_of, row_of}
use Rattle.event_rule.specs.State.{State, start}
use Rattle.event_rule.specs.Step.{step}
use Rattle.event_rule.specs.Whole.{IsStampedReplay}
use Rattle.event_rule.proofs.Parts.{take-split}
use Rattle.event_machine.proofs.Replayed.{replay-next, replay-start}

-- the rows up to one, and that one
pub rows-more : {A : Type 0} (rows : List A) (i : ℕ) (row : A) → i < length rows → row ≡ get_or rows i row → take i rows ++ (row ∷ []) ≡ take (i + 1) rows
rows-more rows i row lt here =
    let e : suc i ≡ i + 1 = omega arith in
    sym (take-split rows i row lt here).0 ∙ ap (λ k. take k rows) e

module _ {S M E : Type 0} (program : Program S M E) (net : Net) where
  pub stamped-start : IsStampedReplay program net [] (start program net)
  stamped-start = record { replay = replay-start program net; ordered = tt; stamped = stamped_none }

  replay-more : (rows : List (StampedRow M)) (i : ℕ) (row : StampedRow M) (state next : State S M) → i < length rows → row ≡ get_or rows i row
      → IsReplay program net (rows_in (take i rows)) state → step program net state (event_of net (without_stamp row)) ≡ Ok next
      → row_of program net state (event_of net (without_stamp row)) ≡ Some (without_stamp row) → IsReplay program net (rows_in (take (i + 1) rows)) next
  replay-more rows i row state next lt is replay leads writes =
      let f : StampedRow M → Row M = λ r. without_stamp r in
      let one : Row M = without_stamp row in
      let bare = rows_in rows in
      let many : i < length bare = let n = length-map rows f in omega (arith, lt, n) in
      let at : one ≡ get_or bare i one = ap f is ∙ sym (get_or-map f rows i row one lt) in
      subst (λ l. IsReplay program net l next) (take-map f (i + 1) rows)
      (replay-next program net bare i one state next many at (subst (λ l. IsReplay program net l state) (sym (take-map f i rows)) replay) leads writes)

  pub stamped-next : (rows : List (StampedRow M)) (i : ℕ) (row : StampedRow M) (state next : State S M) → i < length rows → row ≡ get_or rows i row
      → IsStampedReplay program net (take i rows) state → step program net state (event_of net (without_stamp row)) ≡ Ok next
      → row_of program net state (event_of net (without_stamp row)) ≡ Some (without_stamp row) → IsInPlace (take i rows) row
      → IsStampedReplay program net (take (i + 1) rows) next
  stamped-next rows i row state next lt here is leads writes place =
      let more = rows-more rows i row lt here in
      record {
        replay = replay-more rows i row state next lt here is.replay leads writes;
        ordered = subst AreOrdered more (ordered_push (take i rows) row is.ordered place.0);
        stamped = subst AreStampedRows more (stamped_push (take i rows) row is.stamped place.1);
      }
