-- Laps in which each node has a turn. The plan: a lap makes an event, or nothing is possible before it (`lap_of`). So each lap comes
-- nearer to as many events as a whole run has, or the run is at its end (`ended`).
use Rattle.std.proofs.Common.{◌≡◌, ◌∙◌, ◌⊎◌, inl, inr, ⊎_elim, ℕ, zero, suc, ◌+◌, ◌≤◌, List, [], ◌∷◌, ◌++◌, Ok, arith, length, refl, sym, subst}
use Rattle.std.specs.Prelude.{Contains}
use Rattle.std.proofs.lemmas.List.{length-append}
use Rattle.interference.specs.Net.{Net, IsNetwork, IsVertex}
use Rattle.node_api.specs.Program.{Program}
use Rattle.alpha_laws.specs.Counts.{events_of_run}
use Rattle.alpha_laws.proofs.Runs.{Runs}
use Rattle.event_rule.specs.declared.event.Event.{Event}
use Rattle.event_rule.specs.declared.event.Event.TheVariants.{Pulse, Put, Take}
use Rattle.event_rule.specs.State.{State, start}
use Rattle.event_rule.specs.Step.{run}
use Rattle.event_rule.specs.Events.{IsRunFrom, Possible}
use Rattle.event_rule.proofs.Exactly.{runs-exactly}
use Rattle.event_rule.proofs.KeptRuns.{reached_kept}
use Rattle.event_rule.specs.Commute.{vertex_of}
use Rattle.event_rule.specs.Endings.{IsTerminal}
use Rattle.event_rule.specs.Progress.{IsEnd}
use Rattle.event_rule.proofs.Deadlock.{whole_terminal}
use Rattle.event_rule.proofs.Maximal.{bounded, counted_whole, end_of}
use Rattle.lone_runs.specs.Fair.{AreLaps, AreTurns}

module _ {S M E : Type 0} (program : Program S M E) (net : Net) where
  one_run : (some more : List Event) (state middle last : State S M) → IsRunFrom program net state some middle → IsRunFrom program net middle more last
      → IsRunFrom program net state (some ++ more) last
  one_run [] more state middle last same rest = subst (λ s. IsRunFrom program net s more last) same rest
  one_run (event ∷ some) more state middle last (next, s, on) rest = (next, s, one_run some more next middle last on rest)

  none_twice : (some more : List Event) → some ++ more ≡ [] → (some ≡ []) × (more ≡ [])
  none_twice [] more e = (refl, e)
  none_twice (event ∷ some) more e = absurd cc

  -- no event of these vertices is possible
  abbrev AreStuck : State S M → List ℕ → Type 0
  AreStuck state vs = (v : ℕ) → Contains vs v → (event : Event) → vertex_of event ≡ v → Possible program net state event → ⊥

  none_in : (v : ℕ) → Contains [] v → ⊥
  none_in v (k, lt, is) = omega (arith, lt)

  first_or : (u : ℕ) (vs : List ℕ) (v : ℕ) → Contains (u ∷ vs) v → (v ≡ u) ⊎ Contains vs v
  first_or u vs v (zero, lt, is) = inl (sym is)
  first_or u vs v (suc k, lt, is) = inr (k, omega (arith, lt), is)

  -- the events of turns: none only if nothing was possible
  lap_of : (vs : List ℕ) (state last : State S M) → AreTurns program net state vs last
      → (events : List Event) × IsRunFrom program net state events last × (events ≡ [] → AreStuck state vs)
  lap_of [] state last same = ([], same, λ e v there. absurd (none_in v there))
  lap_of (u ∷ vs) state last (next, turn, rest) =
      let on = lap_of vs next last rest in (
        turn.events ++ on.0,
        one_run turn.events on.0 state next last turn.leads on.1,
        λ e v there.
            let none = none_twice turn.events on.0 e in
            let same : next ≡ state = subst (λ es. IsRunFrom program net state es next) none.0 turn.leads in
            ⊎_elim
            (λ is event own. turn.moves none.0 event (own ∙ is))
            (λ later. subst (λ s. (event : Event) → vertex_of event ≡ v → Possible program net s event → ⊥) same (on.2 none.1 v later))
            (first_or u vs v there),
      )

  vertex_is : (state : State S M) (event : Event) → Possible program net state event → IsVertex net (vertex_of event)
  vertex_is state (Pulse v) can = can.0
  vertex_is state (Put v i) can = can.0.0
  vertex_is state (Take v i) can = can.0.0

  module _ (ok : IsNetwork net) (runs : Runs program net) where
    run_on : (events more : List Event) (state last : State S M) → run program net events ≡ Ok state → IsRunFrom program net state more last
        → run program net (events ++ more) ≡ Ok last
    run_on events more state last is on =
        ((runs-exactly ok runs (events ++ more)).accepts last).1
        (one_run events more (start program net) state last (((runs-exactly ok runs events).accepts state).0 is) on)

    -- what a lap leaves to be done: one less at least, or nothing
    nearer : (events more : List Event) (state : State S M) (n : ℕ) → run program net events ≡ Ok state
        → (more ≡ [] → IsTerminal program net state) → events_of_run program net ≤ length events + suc n
        → events_of_run program net ≤ length (events ++ more) + n
    nearer events [] state n is none enough =
        omega (arith, (end_of ok runs events state is (none refl)).many, length-append events [])
    nearer events (event ∷ more) state n is none enough = omega (arith, enough, length-append events (event ∷ more))

    pub ended : (orders : List (List ℕ)) (events : List Event) (state last : State S M) → run program net events ≡ Ok state
        → AreLaps program net state orders last → events_of_run program net ≤ length events + length orders
        → (all : List Event) × (run program net all ≡ Ok last) × IsEnd program net all last
    ended [] events state last is same enough =
        let many : length events ≡ events_of_run program net = omega (arith, enough, bounded ok runs events state is) in
        let whole = counted_whole ok runs events state is many in
        let terminal = whole_terminal ok runs (reached_kept ok runs state (events, is)) whole in
        subst (λ s. (all : List Event) × (run program net all ≡ Ok s) × IsEnd program net all s) (sym same)
        (events, is, end_of ok runs events state is terminal)
    ended (order ∷ orders) events state last is (all, (next, turns, rest)) enough =
        let lap = lap_of order state next turns in
        let more = lap.0 in
        ended orders (events ++ more) next last (run_on events more state next is lap.1) rest
        (nearer events more state (length orders) is
        (λ none event can. lap.2 none (vertex_of event) (all (vertex_of event) (vertex_is state event can)) event refl can) enough)
