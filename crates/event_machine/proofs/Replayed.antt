-- One entry more behind a replay.
use Rattle.std.proofs.Common.{◌≡◌, ◌+◌, ◌<◌, ◌∙◌, ℕ, suc, Some, List, [], ◌∷◌, ◌++◌, take, length, get_or, Result, Ok, Err, ap, arith, refl, sym, subst}
use Rattle.std.proofs.lemmas.List.{map-append}
use Rattle.interference.specs.Net.{Net}
use Rattle.node_api.specs.Program.{Program}
use Rattle.event_rule.specs.declared.event.Event.{Event}
use Rattle.event_rule.specs.declared.refused.StepRefused.{StepRefused}
use Rattle.event_rule.specs.State.{State, start}
use Rattle.event_rule.specs.Step.{go_on, run_from, step}
use Rattle.event_rule.proofs.Parts.{take-split}
use Rattle.event_rule.proofs.Reached.{run_push}
use Rattle.entries.specs.declared.rows.Row.{Row}
use Rattle.event_rule.specs.Rows.{event_of, if_made, row_of, rows_from, rows_of}
use Rattle.event_rule.specs.Replays.{IsReplay}

module _ {S M E : Type 0} (program : Program S M E) (net : Net) where
  none-behind : (r : Result (State S M) StepRefused) → if_made r (λ next. rows_from program net next []) ≡ []
  none-behind (Ok next) = refl
  none-behind (Err reason) = refl

  -- what a run writes down, and one event more
  rows-push : (k : ℕ) (events : List Event) (event : Event) (state reached : State S M) → run_from program net k events state ≡ Ok reached →
      rows_from program net state (events ++ (event ∷ [])) ≡ rows_from program net state events ++ (row_of program net reached event ∷ [])
  rows-push k [] event state reached e =
      let same : state ≡ reached = cc in
      ap (λ l. row_of program net state event ∷ l) (none-behind (step program net state event)) ∙ ap (λ s. row_of program net s event ∷ []) same
  rows-push k (first ∷ events) event state reached e =
      by-step (step program net state first) e (λ n is. rows-push (suc k) events event n reached is)
    where
      by-step : (r : Result (State S M) StepRefused) → go_on k r (λ n. run_from program net (suc k) events n) ≡ Ok reached
          → ((n : State S M) → run_from program net (suc k) events n ≡ Ok reached →
          rows_from program net n (events ++ (event ∷ [])) ≡ rows_from program net n events ++ (row_of program net reached event ∷ []))
          → row_of program net state first ∷ if_made r (λ n. rows_from program net n (events ++ (event ∷ [])))
          ≡ (row_of program net state first ∷ if_made r (λ n. rows_from program net n events)) ++ (row_of program net reached event ∷ [])
      by-step (Ok n) e more = ap (λ l. row_of program net state first ∷ l) (more n e)
      by-step (Err reason) e more = absurd cc

  replay-push : (rows : List (Row M)) (row : Row M) (state next : State S M) → IsReplay program net rows state →
      step program net state (event_of net row) ≡ Ok next → row_of program net state (event_of net row) ≡ Some row →
      IsReplay program net (rows ++ (row ∷ [])) next
  replay-push rows row state next is leads writes = record {
    events = is.events ++ (event_of net row ∷ []);
    is_run = run_push program net is.events (event_of net row) state next is.is_run leads;
    rows_are = rows-push 0 is.events (event_of net row) (start program net) state is.is_run
        ∙ ap (λ o. rows_of program net is.events ++ (o ∷ [])) writes
        ∙ ap (λ l. l ++ (Some row ∷ [])) is.rows_are ∙ sym (map-append Some rows (row ∷ []));
  }

  -- the entry at an index of a list
  pub replay-next : (rows : List (Row M)) (i : ℕ) (row : Row M) (state next : State S M) → i < length rows → row ≡ get_or rows i row →
      IsReplay program net (take i rows) state → step program net state (event_of net row) ≡ Ok next →
      row_of program net state (event_of net row) ≡ Some row → IsReplay program net (take (i + 1) rows) next
  replay-next rows i row state next lt here is leads writes =
      let more : suc i ≡ i + 1 = omega arith in
      let cut : take i rows ++ (row ∷ []) ≡ take (i + 1) rows = sym (take-split rows i row lt here).0 ∙ ap (λ n. take n rows) more in
      subst (λ l. IsReplay program net l next) cut (replay-push (take i rows) row state next is leads writes)

  pub replay-start : IsReplay program net [] (start program net)
  replay-start = record { events = []; is_run = refl; rows_are = refl }
