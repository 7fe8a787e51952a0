-- Rows that lead to a state, and one more.
use Rattle.std.proofs.Common.{◌≡◌, ◌∙◌, ◌+◌, List, [], ◌∷◌, ◌++◌, Ok, Some, arith, get_or, length, take, refl, sym, ap, subst}
use Rattle.std.proofs.Math.Seq.{take-append_seam}
use Rattle.std.proofs.lemmas.List.{get_or_at, length-append, take_all}
use Rattle.interference.specs.Net.{Net}
use Rattle.node_api.specs.Program.{Program}
use Rattle.entries.specs.Rows.{without_stamp}
use Rattle.entries.specs.declared.rows.StampedRow.{StampedRow}
use Rattle.event_rule.specs.declared.event.Event.{Event}
use Rattle.event_rule.specs.State.{State}
use Rattle.event_rule.specs.Step.{step}
use Rattle.event_rule.specs.Rows.{event_of, row_of}
use Rattle.event_rule.specs.Whole.{IsStampedReplay}
use Rattle.event_machine.proofs.Stamped.{stamped-next}
use Rattle.event_rule.specs.Endings.{IsWholeState}
use Rattle.stamps.specs.Merged.{IsInPlace}
use Rattle.lone_runs.specs.Recorded.{AreWhole}

module _ {S M E : Type 0} (program : Program S M E) (net : Net) where
  -- an event that is made, and its row in place behind the others
  pub recorded_more : (rows : List (StampedRow M)) (row : StampedRow M) (state next : State S M) (event : Event) → IsStampedReplay program net rows state
      → event_of net (without_stamp row) ≡ event → row_of program net state event ≡ Some (without_stamp row) → step program net state event ≡ Ok next
      → IsInPlace rows row → IsStampedReplay program net (rows ++ (row ∷ [])) next
  recorded_more rows row state next event is of writes leads place =
      let all = rows ++ (row ∷ []) in
      let n = length rows in
      let many = length-append rows (row ∷ []) in
      let before : take n all ≡ rows = take-append_seam rows (row ∷ []) in
      let whole : take (n + 1) all ≡ all = take_all (n + 1) all (omega (arith, many)) in
      let at : row ≡ get_or all n row = sym (get_or_at rows row [] row n refl) in
      subst (λ l. IsStampedReplay program net l next) whole
      (stamped-next program net all n row state next (omega (arith, many)) at (subst (λ l. IsStampedReplay program net l state) (sym before) is)
      (ap (λ e. step program net state e) of ∙ leads) (ap (λ e. row_of program net state e) of ∙ writes)
      (subst (λ l. IsInPlace l row) (sym before) place))

  pub are_whole : (rows : List (StampedRow M)) (state : State S M) → IsStampedReplay program net rows state → IsWholeState program net state
      → AreWhole program net rows
  are_whole rows state is whole =
      (state, record { replay = is; whole = λ v vertex. (whole.drained v vertex, λ i lt. whole.empty v i vertex lt) })
