-- There is a thorough turn of each node in each state that is reached: events of the node, one after the other, as long
-- as one is possible. This ends, since no run has more events than a whole one. Then all that was put for the node is
-- taken, no wire is in an out-list of it, and it can't make a pulse. So there are thorough laps in all orders.
use Rattle.std.proofs.Common.{◌≡◌, ◌⊎◌, inl, inr, ⊎_elim, ℕ, zero, suc, ◌+◌, ◌<◌, ◌≤◌, false, List, [], ◌∷◌, ◌++◌, length, refl, ap, ◌∙◌, append-nil}
use Rattle.std.proofs.Common.{arith, Ok}
use Rattle.std.specs.Prelude.{All}
use Rattle.std.proofs.lemmas.Bool.{cases_Bool, cases_lt}
use Rattle.std.proofs.lemmas.List.{length-append}
use Rattle.std.proofs.lemmas.List.Elements.{All-cons, All-head, All-nil, All-tail}
use Rattle.interference.specs.Net.{Net, IsNetwork, IsVertex, degree_of, neighbour_of, back_port_of}
use Rattle.node_api.specs.Program.{Program, last_pulse_on}
use Rattle.wires.specs.declared.wire.Wire.{Wire}
use Rattle.wires.proofs.Wires.{begins_from}
use Rattle.alpha_core.specs.View.{can_pulse, port_at}
use Rattle.alpha_laws.specs.Counts.{events_of_run}
use Rattle.alpha_laws.proofs.Runs.{Runs}
use Rattle.alpha_laws.proofs.Search.{below, first_of, HasFirst}
use Rattle.alpha_laws.proofs.Shown.{HasRest}
use Rattle.event_rule.specs.declared.event.Event.{Event}
use Rattle.event_rule.specs.declared.event.Event.TheVariants.{Pulse, Put, Take}
use Rattle.event_rule.specs.State.{State, link_to, node_of, sent_of, start}
use Rattle.event_rule.specs.Step.{run}
use Rattle.event_rule.specs.Events.{IsRunFrom, Possible}
use Rattle.event_rule.proofs.KeptRuns.{reached_kept}
use Rattle.event_rule.specs.Commute.{vertex_of}
use Rattle.event_rule.specs.Laps.{AreThoroughLaps, AreThoroughTurns, HasAll, ThoroughLapsExist, ThoroughTurnsExist}
use Rattle.event_rule.proofs.Later.{led, rest_then}
use Rattle.event_rule.proofs.Maximal.{bounded, leads_on, run_more}
use Rattle.event_rule.proofs.Laps.{run_on}

module _ {S M E : Type 0} {program : Program S M E} {net : Net} (ok : IsNetwork net) (runs : Runs program net) where
  abbrev last : ℕ
  last = last_pulse_on program net

  abbrev put_for : State S M → ℕ → ℕ → List (Wire M)
  put_for state v i = sent_of (link_to net state.links v i)

  abbrev taken_by : State S M → ℕ → ℕ → List (Wire M)
  taken_by state v i = (link_to net state.links v i).taken

  -- no event of v is possible
  record IsIdle (v : ℕ) (state : State S M) : Type 0 where
    pub taken : (i : ℕ) → i < degree_of net v → length (put_for state v i) ≤ length (taken_by state v i)
    pub put : (i : ℕ) → i < degree_of net v → (port_at (node_of program net state v).view i).out ≡ []
    pub stuck : can_pulse last (node_of program net state v).view ≡ false

  moves_or_idle : (v : ℕ) → IsVertex net v → (state : State S M)
      → ((event : Event) × (vertex_of event ≡ v) × Possible program net state event) ⊎ IsIdle v state
  moves_or_idle v vertex state = ⊎_elim
      (λ (i, lt, more). inl (Take v i, refl, ((vertex, lt), more)))
      (λ none. ⊎_elim
      (λ (i, lt, has). inl (Put v i, refl, ((vertex, lt), omega (arith, ap (λ (l : List (Wire M)). length l) has.is))))
      (λ empty. ⊎_elim
      (λ can. inl (Pulse v, refl, (vertex, can)))
      (λ stuck. inr record { taken = none; put = empty; stuck = stuck })
      (cases_Bool (can_pulse last (node_of program net state v).view)))
      (below {A = λ i. HasFirst (port_at (node_of program net state v).view i).out} {B = λ i. (port_at (node_of program net state v).view i).out ≡ []}
      (λ i. first_of (port_at (node_of program net state v).view i).out) (degree_of net v)))
      (below {A = λ i. length (taken_by state v i) < length (put_for state v i)} {B = λ i. length (put_for state v i) ≤ length (taken_by state v i)}
      (λ i. cases_lt (length (taken_by state v i)) (length (put_for state v i))) (degree_of net v))

  -- events of v, after which none is possible
  record Idled (v : ℕ) (state : State S M) : Type 0 where
    pub events : List Event
    pub own : All (λ event. vertex_of event ≡ v) events
    pub next : State S M
    pub leads : IsRunFrom program net state events next
    pub idle : IsIdle v next

  is_idle : (v : ℕ) (state : State S M) → IsIdle v state → Idled v state
  is_idle v state idle = record { events = []; own = All-nil (λ event. vertex_of event ≡ v); next = state; leads = refl; idle = idle }

  idles : (v : ℕ) → IsVertex net v → (left : ℕ) (before : List Event) (state : State S M) → run program net before ≡ Ok state
      → events_of_run program net ≤ length before + left → Idled v state
  idles v vertex zero before state is enough = ⊎_elim
      (λ (event, own, possible).
      let on = leads_on ok runs state (reached_kept ok runs state (before, is)) event possible in
      absurd (omega (
        arith,
        bounded ok runs (before ++ (event ∷ [])) on.0 (run_more ok runs before state on.0 event is on.1),
        enough,
        length-append before (event ∷ []),
      )))
      (λ idle. is_idle v state idle)
      (moves_or_idle v vertex state)
  idles v vertex (suc left) before state is enough = ⊎_elim
      (λ (event, own, possible).
      let on = leads_on ok runs state (reached_kept ok runs state (before, is)) event possible in
      let more = idles v vertex left (before ++ (event ∷ [])) on.0 (run_more ok runs before state on.0 event is on.1)
      (omega (arith, enough, length-append before (event ∷ []))) in
      record {
        events = event ∷ more.events;
        own = All-cons (λ e. vertex_of e ≡ v) event more.events own more.own;
        next = more.next;
        leads = (on.0, on.1, more.leads);
        idle = more.idle;
      })
      (λ idle. is_idle v state idle)
      (moves_or_idle v vertex state)

  -- what isn't held was taken
  all_was_taken : (xs ys : List (Wire M)) → length (xs ++ ys) ≤ length xs → HasRest (xs ++ ys) xs
  all_was_taken xs [] le = ([], append-nil (xs ++ []) ∙ append-nil xs)
  all_was_taken xs (y ∷ ys) le = absurd (omega (arith, le, length-append xs (y ∷ ys)))

  pub turn_of : ThoroughTurnsExist program net
  turn_of v vertex before state is =
      let done = idles v vertex (events_of_run program net) before state is (omega arith) in
      let later = (led ok runs done.events state done.next (reached_kept ok runs state (before, is)) done.leads).later in (
        done.next,
        record {
          events = done.events;
          own = done.own;
          leads = done.leads;
          taken = λ i lt.
              let grew = later.sent (neighbour_of net v i) (back_port_of net v i) (ok.vertices v i vertex lt) (ok.symmetric v i vertex lt) in
              let link = link_to net done.next.links v i in
              let all = rest_then _ _ _ grew (all_was_taken link.taken link.held (done.idle.taken i lt)) in
              inr (inr (begins_from (put_for state v i) all.0 (taken_by done.next v i) all.1));
          put = done.idle.put;
          pulsed = inr done.idle.stuck;
        },
      )

  turns_of : (vs : List ℕ) → All (λ v. IsVertex net v) vs → (before : List Event) (state : State S M) → run program net before ≡ Ok state
      → (events : List Event) × (next : State S M) × (run program net events ≡ Ok next) × AreThoroughTurns program net state vs next
  turns_of [] all before state is = (before, state, is, refl)
  turns_of (v ∷ vs) all before state is =
      let turn = turn_of v (All-head (λ u. IsVertex net u) v vs all) before state is in
      let more = turns_of vs (All-tail (λ u. IsVertex net u) v vs all) (before ++ turn.1.events) turn.0
      (run_on ok runs before turn.1.events state turn.0 is turn.1.leads) in
      (more.0, more.1, more.2, (turn.0, turn.1, more.3))

  abbrev Fair : List ℕ → Type 0
  Fair order = HasAll net order × All (λ v. IsVertex net v) order

  laps_of : (orders : List (List ℕ)) → All Fair orders
      → (before : List Event) (state : State S M) → run program net before ≡ Ok state
      → (final : State S M) × AreThoroughLaps program net state orders final
  laps_of [] all before state is = (state, refl)
  laps_of (order ∷ orders) all before state is =
      let here = All-head Fair order orders all in
      let turns = turns_of order here.1 before state is in
      let more = laps_of orders (All-tail Fair order orders all) turns.0 turns.1 turns.2 in
      (more.0, (here.0, (turns.1, turns.3, more.1)))

  pub exist : ThoroughLapsExist program net
  exist orders all = laps_of orders all [] (start program net) refl
