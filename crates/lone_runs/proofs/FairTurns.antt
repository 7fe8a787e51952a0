-- There are fair turns in all orders. A node has finitely many events that may be possible: a pulse, and a put and a take by each port. So one of
-- them is possible, or none is (`moves_or_none`), and a turn makes that one, or none (`turn_of`).
use Rattle.std.proofs.Common.{◌≡◌, ◌⊎◌, inl, inr, ⊎_elim, ℕ, ◌<◌, ◌≤◌, false, List, [], ◌∷◌, ◌++◌, length, refl, subst, arith, Ok}
use Rattle.std.specs.Prelude.{All}
use Rattle.std.proofs.lemmas.Bool.{cases_Bool, cases_lt}
use Rattle.std.proofs.lemmas.List.Elements.{All-cons, All-head, All-nil, All-tail}
use Rattle.interference.specs.Net.{Net, IsNetwork, IsVertex, degree_of}
use Rattle.node_api.specs.Program.{Program, last_pulse_on}
use Rattle.alpha_core.specs.View.{can_pulse, port_at}
use Rattle.alpha_laws.proofs.Runs.{Runs}
use Rattle.alpha_laws.proofs.Search.{below}
use Rattle.event_rule.specs.declared.event.Event.{Event}
use Rattle.event_rule.specs.declared.event.Event.TheVariants.{Pulse, Put, Take}
use Rattle.event_rule.specs.State.{State, link_to, node_of, sent_of, start}
use Rattle.event_rule.specs.Step.{run}
use Rattle.event_rule.specs.Events.{Possible}
use Rattle.event_rule.specs.Commute.{vertex_of}
use Rattle.event_rule.specs.Laps.{HasAll}
use Rattle.event_rule.proofs.KeptRuns.{reached_kept}
use Rattle.event_rule.proofs.Maximal.{leads_on}
use Rattle.event_rule.proofs.Laps.{run_on}
use Rattle.lone_runs.specs.Fair.{AreLaps, AreTurns, FairLapsExist, FairTurnsExist}

module _ {S M E : Type 0} {program : Program S M E} {net : Net} (ok : IsNetwork net) (runs : Runs program net) where
  abbrev IsStuck : ℕ → State S M → Type 0
  IsStuck v state = (event : Event) → vertex_of event ≡ v → Possible program net state event → ⊥

  -- no event of v is possible if it can take by no port, put by none, and make no pulse
  stuck : (v : ℕ) (state : State S M)
      → ((i : ℕ) → i < degree_of net v → length (sent_of (link_to net state.links v i)) ≤ length (link_to net state.links v i).taken)
      → ((i : ℕ) → i < degree_of net v → length (port_at (node_of program net state v).view i).out ≤ 0)
      → can_pulse (last_pulse_on program net) (node_of program net state v).view ≡ false → IsStuck v state
  stuck v state none_comes none_waits no_pulse (Pulse u) own possible =
      let can = subst (λ w. Possible program net state (Pulse w)) own possible in
      let yes = can.1 in
      cc
  stuck v state none_comes none_waits no_pulse (Put u i) own possible =
      let can = subst (λ w. Possible program net state (Put w i)) own possible in
      omega (arith, can.1, none_waits i can.0.1)
  stuck v state none_comes none_waits no_pulse (Take u i) own possible =
      let can = subst (λ w. Possible program net state (Take w i)) own possible in
      omega (arith, can.1, none_comes i can.0.1)

  moves_or_none : (v : ℕ) → IsVertex net v → (state : State S M)
      → ((event : Event) × (vertex_of event ≡ v) × Possible program net state event) ⊎ IsStuck v state
  moves_or_none v vertex state = ⊎_elim
      (λ (i, lt, comes). inl (Take v i, refl, ((vertex, lt), comes)))
      (λ none_comes. ⊎_elim
      (λ (i, lt, waits). inl (Put v i, refl, ((vertex, lt), waits)))
      (λ none_waits. ⊎_elim
      (λ can. inl (Pulse v, refl, (vertex, can)))
      (λ no_pulse. inr (stuck v state none_comes none_waits no_pulse))
      (cases_Bool (can_pulse (last_pulse_on program net) (node_of program net state v).view)))
      (below {A = λ i. 0 < length (port_at (node_of program net state v).view i).out}
      {B = λ i. length (port_at (node_of program net state v).view i).out ≤ 0}
      (λ i. cases_lt 0 (length (port_at (node_of program net state v).view i).out)) (degree_of net v)))
      (below {A = λ i. length (link_to net state.links v i).taken < length (sent_of (link_to net state.links v i))}
      {B = λ i. length (sent_of (link_to net state.links v i)) ≤ length (link_to net state.links v i).taken}
      (λ i. cases_lt (length (link_to net state.links v i).taken) (length (sent_of (link_to net state.links v i)))) (degree_of net v))

  pub turn_of : FairTurnsExist program net
  turn_of v vertex before state is = ⊎_elim
      (λ (event, own, possible).
      let on = leads_on ok runs state (reached_kept ok runs state (before, is)) event possible in (
        on.0,
        record {
          events = event ∷ [];
          own = All-cons (λ e. vertex_of e ≡ v) event [] own (All-nil (λ e. vertex_of e ≡ v));
          leads = (on.0, on.1, refl);
          moves = λ none. absurd cc;
        },
      ))
      (λ none. (state, record { events = []; own = All-nil (λ e. vertex_of e ≡ v); leads = refl; moves = λ e. none }))
      (moves_or_none v vertex state)

  turns_of : (vs : List ℕ) → All (λ v. IsVertex net v) vs → (before : List Event) (state : State S M) → run program net before ≡ Ok state
      → (events : List Event) × (next : State S M) × (run program net events ≡ Ok next) × AreTurns program net state vs next
  turns_of [] all before state is = (before, state, is, refl)
  turns_of (v ∷ vs) all before state is =
      let turn = turn_of v (All-head (λ u. IsVertex net u) v vs all) before state is in
      let more = turns_of vs (All-tail (λ u. IsVertex net u) v vs all) (before ++ turn.1.events) turn.0
      (run_on ok runs before turn.1.events state turn.0 is turn.1.leads) in
      (more.0, more.1, more.2, (turn.0, turn.1, more.3))

  abbrev Fair : List ℕ → Type 0
  Fair order = HasAll net order × All (λ v. IsVertex net v) order

  laps_of : (orders : List (List ℕ)) → All Fair orders → (before : List Event) (state : State S M) → run program net before ≡ Ok state
      → (last : State S M) × AreLaps program net state orders last
  laps_of [] all before state is = (state, refl)
  laps_of (order ∷ orders) all before state is =
      let here = All-head Fair order orders all in
      let turns = turns_of order here.1 before state is in
      let more = laps_of orders (All-tail Fair order orders all) turns.0 turns.1 turns.2 in
      (more.0, (here.0, (turns.1, turns.3, more.1)))

  pub exist : FairLapsExist program net
  exist orders all = laps_of orders all [] (start program net) refl
