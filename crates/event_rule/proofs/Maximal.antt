-- Lists of events. Each has as many events as its state shows, which are at most those of a whole run. So it can be continued to a
-- whole state, and one that can't be continued is whole.
use Rattle.std.proofs.Common.{◌≡◌, ◌⊎◌, inl, inr, ℕ, zero, suc, ◌+◌, ◌<◌, ◌≤◌, List, [], ◌∷◌, ◌++◌, Result, Ok, Err, length}
use Rattle.std.proofs.Common.{refl, sym, ap, ◌∙◌, append_assoc, append-nil, arith, subst, ⊎_elim}
use Rattle.std.proofs.lemmas.List.{length-append}
use Rattle.interference.specs.Net.{Net, IsNetwork, IsVertex}
use Rattle.node_api.specs.Program.{Program}
use Rattle.alpha_laws.specs.Counts.{events_of_run}
use Rattle.alpha_laws.proofs.Bounded as nodes
use Rattle.alpha_laws.proofs.Runs.{Runs}
use Rattle.alpha_laws.proofs.Whole.{has_ended}
use Rattle.wires.specs.declared.wire.Wire.{Wire}
use Rattle.event_rule.specs.declared.event.Event.{Event}
use Rattle.event_rule.specs.declared.refused.StepRefused.{StepRefused}
use Rattle.event_rule.specs.State.{State, start, node_of, link_at, link_to, sent_of}
use Rattle.event_rule.specs.Simulation.{IsSimulation}
use Rattle.event_rule.specs.Step.{step, run}
use Rattle.event_rule.specs.Events.{Possible, Steps, IsRunFrom}
use Rattle.event_rule.proofs.Exactly.{runs-exactly}
use Rattle.event_rule.proofs.KeptRuns.{start_good, reached_kept, reached_simulates}
use Rattle.event_rule.proofs.KeptSteps.{Good, step_good}
use Rattle.event_rule.proofs.NetKept.{NetKept, all_kept}
use Rattle.event_rule.proofs.Stepping.{Stepped, stepped, steps-step}
use Rattle.event_rule.specs.Endings.{HasRoom, IsRunWithin, IsTerminal, IsWholeState}
use Rattle.event_rule.specs.Progress.{IsEnd, events_in}
use Rattle.event_rule.proofs.EventCount.{moved_in, one_more_shows, pulses_in, shows, start_shows}
use Rattle.event_rule.proofs.Deadlock.{no_deadlock}

module _ {S M E : Type 0} {program : Program S M E} {net : Net} (ok : IsNetwork net) (runs : Runs program net) where
  pub next_kept : (state next : State S M) (event : Event) → NetKept program net state → Steps program net state event next → NetKept program net next
  next_kept state next event kept s =
      let P : Result (State S M) StepRefused → Type 0 = λ r. Good program net r in
      subst P (steps-step program net state event next s) (step_good ok runs kept event)

  run_shows : (events : List Event) (state last : State S M) → NetKept program net state → IsRunFrom program net state events last →
      pulses_in last + moved_in last ≡ pulses_in state + moved_in state + length events
  run_shows [] state last kept same = omega (arith, ap (λ s. pulses_in s + moved_in s) same)
  run_shows (event ∷ events) state last kept (next, s, rest) =
      omega (arith, run_shows events next last (next_kept state next event kept s) rest, one_more_shows program net ok kept event next s)

  module _ (events : List Event) (state : State S M) (is : run program net events ≡ Ok state) where
    kept : NetKept program net state
    kept = reached_kept ok runs state (events, is)

    simulation : IsSimulation program net state
    simulation = reached_simulates ok runs state (events, is)

    pub counted : length events ≡ events_in program net state
    counted =
        omega (
          arith,
          run_shows events (start program net) state (start_good ok runs) (((runs-exactly ok runs events).accepts state).0 is),
          start_shows program net,
          shows program net ok kept,
        )

    abbrev sent : ℕ → ℕ → List (Wire M)
    sent v i = sent_of (link_at state.links v i)

    abbrev taken : ℕ → ℕ → List (Wire M)
    taken v i = (link_to net state.links v i).taken

    abbrev held : ℕ → ℕ → List (Wire M)
    held v i = (link_at state.links v i).held

    pub bounded : length events ≤ events_of_run program net
    bounded = omega (arith, counted, nodes.bounded program net ok (node_of program net state) sent taken held simulation (all_kept ok kept).splits)

    pub whole_counted : IsWholeState program net state → length events ≡ events_of_run program net
    whole_counted whole =
        counted ∙ nodes.whole_counted program net ok (node_of program net state) sent taken held simulation (all_kept ok kept).splits whole

    pub counted_whole : length events ≡ events_of_run program net → IsWholeState program net state
    counted_whole many =
        nodes.counted_whole program net ok (node_of program net state) sent taken held simulation (all_kept ok kept).splits (sym counted ∙ many)

  -- an event that is possible leads on
  pub leads_on : (state : State S M) → NetKept program net state → (event : Event) → Possible program net state event
      → (next : State S M) × Steps program net state event next
  leads_on state good event possible = from (step program net state event) (stepped ok runs good event)
    where
      from : (r : Result (State S M) StepRefused) → Stepped program net state event r → (next : State S M) × Steps program net state event next
      from (Ok next) s = (next, s)
      from (Err refused) s = ⊎_elim (λ none. absurd (none.0 possible.0)) (λ late. absurd (late.1 possible.1)) s

  -- a run, and one event more
  one_more : (events : List Event) (state last next : State S M) (event : Event) → IsRunFrom program net state events last → Steps program net last event next
      → IsRunFrom program net state (events ++ (event ∷ [])) next
  one_more [] state last next event same s = (next, subst (λ l. Steps program net l event next) same s, refl)
  one_more (first ∷ events) state last next event (middle, f, rest) s = (middle, f, one_more events middle last next event rest s)

  pub run_more : (events : List Event) (state next : State S M) (event : Event) → run program net events ≡ Ok state → Steps program net state event next
      → run program net (events ++ (event ∷ [])) ≡ Ok next
  run_more events state next event is s =
      ((runs-exactly ok runs (events ++ (event ∷ []))).accepts next).1
      (one_more events (start program net) state next event (((runs-exactly ok runs events).accepts state).0 is) s)

  -- a list goes on, or its state is whole
  goes_on : (capacity : ℕ) → 0 < capacity → (events : List Event) (state : State S M) → run program net events ≡ Ok state
      → ((event : Event) × (next : State S M) × (run program net (events ++ (event ∷ [])) ≡ Ok next) × HasRoom capacity state event ×
      Steps program net state event next)
      ⊎ IsWholeState program net state
  goes_on capacity some events state is = ⊎_elim
      (λ (event, possible).
      let on = leads_on state (kept events state is) event possible.0 in
      inl (event, on.0, run_more events state on.0 event is on.1, possible.1, on.1))
      (λ whole. inr whole)
      (no_deadlock ok runs (kept events state is) capacity some)

  -- how a list goes on to a whole state
  abbrev Completes : ℕ → List Event → State S M → Type 0
  Completes capacity events state =
      (more : List Event) × (last : State S M) × (run program net (events ++ more) ≡ Ok last) × IsRunWithin capacity program net state more last ×
      IsWholeState program net last

  completed : (capacity : ℕ) → 0 < capacity → (left : ℕ) (events : List Event) (state : State S M) → run program net events ≡ Ok state
      → events_of_run program net ≤ length events + left → Completes capacity events state
  completed capacity some zero events state is enough = ⊎_elim
      (λ (event, next, is', room, s). absurd (omega (arith, bounded (events ++ (event ∷ [])) next is', enough, length-append events (event ∷ []))))
      (λ whole. ([], state, ap (λ l. run program net l) (append-nil events) ∙ is, refl, whole))
      (goes_on capacity some events state is)
  completed capacity some (suc left) events state is enough = ⊎_elim
      (λ (event, next, is', room, s).
      let (more, last, ends, on, whole) = completed capacity some left (events ++ (event ∷ [])) next is'
      (omega (arith, enough, length-append events (event ∷ []))) in
      (event ∷ more, last, ap (λ l. run program net l) (sym (append_assoc events (event ∷ []) more)) ∙ ends, (room, (next, s, on)), whole))
      (λ whole. ([], state, ap (λ l. run program net l) (append-nil events) ∙ is, refl, whole))
      (goes_on capacity some events state is)

  pub completes : (events : List Event) (state : State S M) → run program net events ≡ Ok state → (capacity : ℕ) → 0 < capacity →
      Completes capacity events state
  completes events state is capacity some = completed capacity some (events_of_run program net) events state is (omega arith)

  pub end_of : (events : List Event) (state : State S M) → run program net events ≡ Ok state → IsTerminal program net state
      → IsEnd program net events state
  end_of events state is terminal =
      let good = kept events state is in
      let whole : IsWholeState program net state = ⊎_elim
      (λ (event, possible). absurd (terminal event possible.0))
      (λ whole. whole)
      (no_deadlock ok runs good 1 (omega arith)) in
      record {
        whole = whole;
        many = whole_counted events state is whole;
        ended = has_ended ok (simulation events state is) (all_kept ok good).splits whole runs;
      }

  pub ends_agree : (events others : List Event) (state other : State S M) → run program net events ≡ Ok state → run program net others ≡ Ok other
      → IsTerminal program net state → IsTerminal program net other
      → (length events ≡ length others)
      × ((v : ℕ) → IsVertex net v → node_of program net state v ≡ node_of program net other v)
  ends_agree events others state other is is' terminal terminal' =
      let one = end_of events state is terminal in
      let two = end_of others other is' terminal' in
      (one.many ∙ sym two.many, λ v vertex. one.ended.nodes_are v vertex ∙ sym (two.ended.nodes_are v vertex))
