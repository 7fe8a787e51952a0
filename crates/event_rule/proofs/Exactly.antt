-- `run` accepts the runs, and refuses as the relations ask.
use Rattle.std.proofs.Common.{◌≡◌, ℕ, suc, ◌+◌, List, [], ◌∷◌, ◌++◌, length, Result, Ok, Err, refl, sym, ap, ◌∙◌, arith, subst}
use Rattle.interference.specs.Net.{Net, IsNetwork}
use Rattle.node_api.specs.Program.{Program}
use Rattle.alpha_laws.proofs.Runs.{Runs}
use Rattle.event_rule.specs.declared.event.Event.{Event}
use Rattle.event_rule.specs.declared.refused.StepRefused.{StepRefused}
use Rattle.event_rule.specs.declared.refused.RunRefused.{RunRefused}
use Rattle.event_rule.specs.Refusals.{at_index}
use Rattle.event_rule.specs.State.{State, start}
use Rattle.event_rule.specs.Step.{step, go_on, run_from, run}
use Rattle.event_rule.specs.Events.{Steps, StepsExactly, IsRunFrom, StopsFrom, RunsExactly}
use Rattle.event_rule.proofs.NetKept.{NetKept}
use Rattle.event_rule.proofs.KeptSteps.{Good, step_good}
use Rattle.event_rule.proofs.KeptRuns.{start_good}
use Rattle.event_rule.proofs.Stepping.{Stepped, stepped, steps-step, why-step}

-- what a list of events comes to, in the relations
abbrev Comes : {S M E : Type 0} → Program S M E → Net → ℕ → State S M → List Event → Result (State S M) RunRefused → Type 0
Comes program net k state events (Ok last) = IsRunFrom program net state events last
Comes program net k state events (Err refused) = StopsFrom program net k state events refused

module _ {S M E : Type 0} (program : Program S M E) (net : Net) where
  -- a run is accepted
  run-accepts : (k : ℕ) (events : List Event) (state last : State S M) → IsRunFrom program net state events last → run_from program net k events state ≡ Ok last
  run-accepts k [] state last same = ap (λ s. Ok s) (sym same)
  run-accepts k (event ∷ events) state last (next, s, rest) =
      ap (λ r. go_on k r (λ next. run_from program net (suc k) events next)) (steps-step program net state event next s) ∙
      run-accepts (suc k) events next last rest

  -- where an event isn't possible the list is refused
  stops-at : (k : ℕ) (before : List Event) (event : Event) (after : List Event) (state reached : State S M) (reason : StepRefused)
      → IsRunFrom program net state before reached → step program net reached event ≡ Err reason
      → run_from program net k (before ++ (event ∷ after)) state ≡ Err (at_index (k + length before) reason)
  stops-at k [] event after state reached reason same refused =
      let e : k ≡ k + 0 = omega arith in
      ap (λ s. go_on k (step program net s event) (λ next. run_from program net (suc k) after next)) (sym same)
      ∙ ap (λ r. go_on k r (λ next. run_from program net (suc k) after next)) refused ∙ ap (λ n. Err (at_index n reason)) e
  stops-at k (first ∷ before) event after state reached reason (next, s, rest) refused =
      let e : suc k + length before ≡ k + suc (length before) = omega arith in
      ap (λ r. go_on k r (λ next. run_from program net (suc k) (before ++ (event ∷ after)) next)) (steps-step program net state first next s)
      ∙ stops-at (suc k) before event after next reached reason rest refused ∙ ap (λ n. Err (at_index n reason)) e

  stops-run : (events : List Event) (refused : RunRefused) → StopsFrom program net 0 (start program net) events refused → run program net events ≡ Err refused
  stops-run events refused stop =
      ap (λ l. run program net l) stop.splits
      ∙ stops-at 0 stop.before stop.event stop.after (start program net) stop.reached stop.reason stop.is_run
      (why-step program net stop.reached stop.event stop.reason stop.why)
      ∙ ap (λ r. Err r) (sym stop.index)

module _ {S M E : Type 0} {program : Program S M E} {net : Net} (ok : IsNetwork net) (runs : Runs program net) where
  -- a step in a state that is kept
  pub steps-exactly : (state : State S M) → NetKept program net state → (event : Event) → StepsExactly program net state event
  steps-exactly state kept event = record {
    leads = λ next. (
      λ is. let P : Result (State S M) StepRefused → Type 0 = λ r. Stepped program net state event r in subst P is (stepped ok runs kept event),
      λ s. steps-step program net state event next s,
    );
    refuses = λ refused. (
      λ is. let P : Result (State S M) StepRefused → Type 0 = λ r. Stepped program net state event r in subst P is (stepped ok runs kept event),
      λ why. why-step program net state event refused why,
    );
  }

  comes-on : (k : ℕ) (state : State S M) (event : Event) (events : List Event) (next : State S M) → Steps program net state event next
      → (r : Result (State S M) RunRefused) → Comes program net (suc k) next events r → Comes program net k state (event ∷ events) r
  comes-on k state event events next s (Ok last) rest = (next, s, rest)
  comes-on k state event events next s (Err refused) rest = record {
    before = event ∷ rest.before;
    event = rest.event;
    after = rest.after;
    splits = ap (λ l. event ∷ l) rest.splits;
    reached = rest.reached;
    is_run = (next, s, rest.is_run);
    reason = rest.reason;
    why = rest.why;
    index = rest.index ∙ ap (λ n. at_index n rest.reason) (let e : suc k + length rest.before ≡ k + suc (length rest.before) = omega arith in e);
  }

  comes-step : (k : ℕ) (state : State S M) (event : Event) (events : List Event) (r : Result (State S M) StepRefused) → Stepped program net state event r →
      Good program net r
      → ((next : State S M) → NetKept program net next → Comes program net (suc k) next events (run_from program net (suc k) events next))
      → Comes program net k state (event ∷ events) (go_on k r (λ next. run_from program net (suc k) events next))
  comes-step k state event events (Ok next) s good more = comes-on k state event events next s _ (more next good)
  comes-step k state event events (Err refused) s good more = record {
    before = [];
    event = event;
    after = events;
    splits = refl;
    reached = state;
    is_run = refl;
    reason = refused;
    why = s;
    index = ap (λ n. at_index n refused) (let e : k ≡ k + 0 = omega arith in e);
  }

  run-comes : (k : ℕ) (events : List Event) (state : State S M) → NetKept program net state →
      Comes program net k state events (run_from program net k events state)
  run-comes k [] state kept = refl
  run-comes k (event ∷ events) state kept =
      comes-step k state event events (step program net state event) (stepped ok runs kept event) (step_good ok runs kept event)
      (λ next kept'. run-comes (suc k) events next kept')

  from-start : (events : List Event) → Comes program net 0 (start program net) events (run program net events)
  from-start events = run-comes 0 events (start program net) (start_good ok runs)

  pub runs-exactly : (events : List Event) → RunsExactly program net events
  runs-exactly events = record {
    accepts = λ last. (
      λ is. let P : Result (State S M) RunRefused → Type 0 = λ r. Comes program net 0 (start program net) events r in subst P is (from-start events),
      λ is. run-accepts program net 0 events (start program net) last is,
    );
    refuses = λ refused. (
      λ is. let P : Result (State S M) RunRefused → Type 0 = λ r. Comes program net 0 (start program net) events r in subst P is (from-start events),
      λ stop. stops-run program net events refused stop,
    );
  }
