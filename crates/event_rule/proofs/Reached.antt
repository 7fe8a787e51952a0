-- The states that some list of events reaches: the start, and what a step leads to.
use Rattle.std.proofs.Common.{◌≡◌, ℕ, suc, ◌+◌, ◌<◌, List, [], ◌∷◌, ◌++◌, take, drop, length, get_or, Result, Ok, Err, refl, ap, ◌∙◌, arith}
use Rattle.interference.specs.Net.{Net}
use Rattle.node_api.specs.Program.{Program}
use Rattle.event_rule.specs.declared.event.Event.{Event}
use Rattle.event_rule.specs.declared.refused.StepRefused.{StepRefused}
use Rattle.event_rule.specs.declared.refused.RunRefused.{RunRefused}
use Rattle.event_rule.specs.State.{State, start}
use Rattle.event_rule.specs.Step.{step, go_on, run_from, run}
use Rattle.event_rule.specs.Refusals.{at_index}
use Rattle.event_rule.proofs.Parts.{take-split}
use Rattle.event_rule.specs.Simulation.{IsReachable}

abbrev and_then : {A B : Type 0} → Result A RunRefused → (A → Result B RunRefused) → Result B RunRefused
and_then (Ok x) f = f x
and_then (Err refused) f = Err refused

go_on-then : {A B C : Type 0} (k : ℕ) (r : Result A StepRefused) (f : A → Result C RunRefused) (g : A → Result B RunRefused) (h : B → Result C RunRefused) →
    ((x : A) → f x ≡ and_then (g x) h) → go_on k r f ≡ and_then (go_on k r g) h
go_on-then k (Ok x) f g h same = same x
go_on-then k (Err refused) f g h same = refl

module _ {S M E : Type 0} (program : Program S M E) (net : Net) where
  -- a list, and then another
  pub run-append : (k : ℕ) (before after : List Event) (state : State S M)
      → run_from program net k (before ++ after) state
      ≡ and_then (run_from program net k before state) (λ s. run_from program net (k + length before) after s)
  run-append k [] after state = ap (λ n. run_from program net n after state) (let e : k ≡ k + 0 = omega arith in e)
  run-append k (first ∷ before) after state =
      let e : suc k + length before ≡ k + suc (length before) = omega arith in
      go_on-then k (step program net state first) _ _ _ (λ s. run-append (suc k) before after s)
      ∙ ap (λ n. and_then (go_on k (step program net state first) (λ next. run_from program net (suc k) before next)) (λ s. run_from program net n after s)) e

  -- a run, and one event more
  pub run_push : (events : List Event) (event : Event) (state next : State S M) → run program net events ≡ Ok state →
      step program net state event ≡ Ok next → run program net (events ++ (event ∷ [])) ≡ Ok next
  run_push events event state next is e =
      run-append 0 events (event ∷ []) (start program net)
      ∙ ap (λ r. and_then r (λ s. run_from program net (0 + length events) (event ∷ []) s)) is
      ∙ ap (λ r. go_on (0 + length events) r (λ next. Ok next)) e

  pub reached_step : (state next : State S M) (event : Event) → IsReachable program net state → step program net state event ≡ Ok next →
      IsReachable program net next
  reached_step state next event (events, is) e = (events ++ (event ∷ []), run_push events event state next is e)

  -- the event at an index of a list, and what the list comes to by it
  module _ (events : List Event) (i : ℕ) (event : Event) (lt : i < length events) (event_is : event ≡ get_or events i event)
      (state : State S M) (before : run program net (take i events) ≡ Ok state) where
    pub run_next : (next : State S M) → step program net state event ≡ Ok next → run program net (take (i + 1) events) ≡ Ok next
    run_next next made =
        let parts = take-split events i event lt event_is in
        let one : i + 1 ≡ suc i = omega arith in
        ap (λ n. run program net (take n events)) one ∙ ap (λ l. run program net l) parts.0
        ∙ run_push (take i events) event state next before made

    pub run_stops : (refused : StepRefused) → step program net state event ≡ Err refused → run program net events ≡ Err (at_index i refused)
    run_stops refused made =
        let parts = take-split events i event lt event_is in
        let after = drop (suc i) events in
        let place : 0 + length (take i events) ≡ i = omega (arith, parts.2) in
        ap (λ l. run program net l) parts.1
        ∙ run-append 0 (take i events) (event ∷ after) (start program net)
        ∙ ap (λ r. and_then r (λ s. run_from program net (0 + length (take i events)) (event ∷ after) s)) before
        ∙ ap (λ r. go_on (0 + length (take i events)) r (λ next. run_from program net (suc (0 + length (take i events))) after next)) made
        ∙ ap (λ n. Err (at_index n refused)) place
