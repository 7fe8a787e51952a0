-- What thorough turns leave, one after the other. What the last turn of a node left still stands at their end, since the
-- events of other nodes leave the node as it is and lists only grow; and what was put before the first turn had been put
-- when the node's turn began.
use Rattle.std.proofs.Common.{◌≡◌, ◌⊎◌, inl, inr, ⊎_elim, ℕ, ◌<◌, false, List, [], ◌∷◌, ◌++◌, refl, sym, ap, ◌∙◌, arith, subst}
use Rattle.std.specs.Prelude.{Contains}
use Rattle.std.proofs.lemmas.Bool.{cases_eq}
use Rattle.interference.specs.Net.{Net, IsNetwork, IsVertex, degree_of, neighbour_of, back_port_of}
use Rattle.node_api.specs.Program.{Program, last_pulse_on}
use Rattle.wires.specs.Streams.{Begins}
use Rattle.wires.proofs.Wires.{begins_rest}
use Rattle.alpha_core.specs.View.{Node, can_pulse, expects, port_at}
use Rattle.alpha_laws.proofs.Listed.{contains_cons, contains_more}
use Rattle.alpha_laws.proofs.Runs.{Runs}
use Rattle.alpha_laws.proofs.Shown.{HasRest}
use Rattle.event_rule.specs.declared.event.Event.{Event}
use Rattle.event_rule.specs.State.{State, link_to, node_of, sent_of}
use Rattle.event_rule.specs.Events.{IsRunFrom}
use Rattle.event_rule.proofs.NetKept.{NetKept}
use Rattle.event_rule.specs.Laps.{AreThoroughTurns}
use Rattle.event_rule.proofs.Changes.{pulse_of}
use Rattle.event_rule.proofs.Later.{Later, later_same, later_then, led, others_stay, rest_then}

module _ {S M E : Type 0} {program : Program S M E} {net : Net} (ok : IsNetwork net) (runs : Runs program net) where
  pub one_run : (some more : List Event) (state middle last : State S M) → IsRunFrom program net state some middle → IsRunFrom program net middle more last
      → IsRunFrom program net state (some ++ more) last
  one_run [] more state middle last same rest = subst (λ s. IsRunFrom program net s more last) same rest
  one_run (event ∷ some) more state middle last (next, s, on) rest = (next, s, one_run some more next middle last on rest)

  -- what the turns of some vertices leave
  pub record Passed (vs : List ℕ) (old new : State S M) : Type 0 where
    pub events : List Event
    pub leads : IsRunFrom program net old events new
    pub kept : NetKept program net new
    pub later : Later program net old new
    pub stays : (v : ℕ) → IsVertex net v → Contains vs v ⊎ (node_of program net new v ≡ node_of program net old v)
    pub taken : (v i : ℕ) → Contains vs v → IsVertex net v → i < degree_of net v
        → (pulse_of program net old v < pulse_of program net new v)
        ⊎ ((expects (port_at (node_of program net new v).view i) ≡ false)
        ⊎ HasRest (sent_of (link_to net old.links v i)) (link_to net new.links v i).taken)
    pub put : (v i : ℕ) → Contains vs v → IsVertex net v → i < degree_of net v → (port_at (node_of program net new v).view i).out ≡ []
    pub pulsed : (v : ℕ) → Contains vs v → IsVertex net v → (pulse_of program net old v < pulse_of program net new v)
        ⊎ (can_pulse (last_pulse_on program net) (node_of program net new v).view ≡ false)

  none_in : (v : ℕ) → Contains [] v → ⊥
  none_in v (k, lt, is) = omega (arith, lt)

  pub laps : (vs : List ℕ) (state last : State S M) → NetKept program net state → AreThoroughTurns program net state vs last → Passed vs state last
  laps [] state last kept same = subst (λ s. Passed [] state s) (sym same) record {
    events = [];
    leads = refl;
    kept = kept;
    later = later_same program net state;
    stays = λ v vertex. inr refl;
    taken = λ v i there. absurd (none_in v there);
    put = λ v i there. absurd (none_in v there);
    pulsed = λ v there. absurd (none_in v there);
  }
  laps (u ∷ vs) state last kept (next, turn, rest) =
      let first = led ok runs turn.events state next kept turn.leads in
      let on = laps vs next last first.kept rest in
      record {
        events = turn.events ++ on.events;
        leads = one_run turn.events on.events state next last turn.leads on.leads;
        kept = on.kept;
        later = later_then program net state next last first.later on.later;
        stays = λ v vertex. ⊎_elim
            (λ there. inl (contains_more u vs v there))
            (λ same. ⊎_elim
            (λ is. inl (0, omega arith, sym is))
            (λ ne. inr (same ∙ others_stay ok runs u v turn.events state next kept turn.own vertex ne turn.leads))
            (cases_eq v u))
            (on.stays v vertex);
        taken = λ v i there vertex lt.
            let w = neighbour_of net v i in
            let k = back_port_of net v i in
            let vertex' = ok.vertices v i vertex lt in
            let lt' = ok.symmetric v i vertex lt in
            let up = first.later.pulses v vertex in
            let Enough : Type 0 = (pulse_of program net state v < pulse_of program net last v)
            ⊎ ((expects (port_at (node_of program net last v).view i) ≡ false)
            ⊎ HasRest (sent_of (link_to net state.links v i)) (link_to net last.links v i).taken) in
            let behind : Contains vs v → Enough = λ more. ⊎_elim
            (λ grew. inl (omega (arith, grew, up)))
            (λ rest'. inr (⊎_elim
            (λ quiet. inl quiet)
            (λ all. inr (rest_then _ _ _ (first.later.sent w k vertex' lt') all))
            rest'))
            (on.taken v i more vertex lt) in
            ⊎_elim
            behind
            (λ same. ⊎_elim
            (λ is.
            let now = subst (λ a. i < degree_of net a → (pulse_of program net state a < pulse_of program net next a)
            ⊎ ((expects (port_at (node_of program net next a).view i) ≡ false)
            ⊎ Begins (sent_of (link_to net state.links a i)) (link_to net next.links a i).taken)) is (λ below. turn.taken i below) lt in
            ⊎_elim
            (λ grew. inl (subst (λ (n : Node S M). pulse_of program net state v < n.view.pulse) (sym same) grew))
            (λ rest'. inr (⊎_elim
            (λ quiet. inl (ap (λ (n : Node S M). expects (port_at n.view i)) same ∙ quiet))
            (λ all. inr (rest_then _ _ _ (begins_rest _ _ all) (on.later.taken w k vertex' lt')))
            rest'))
            now)
            behind
            (contains_cons u vs v there))
            (on.stays v vertex);
        put = λ v i there vertex lt. ⊎_elim
            (λ later. on.put v i later vertex lt)
            (λ same. ⊎_elim
            (λ is. ap (λ n. (port_at n.view i).out) same
            ∙ subst (λ a. (port_at (node_of program net next a).view i).out ≡ []) is (turn.put i (subst (λ a. i < degree_of net a) (sym is) lt)))
            (λ more. on.put v i more vertex lt)
            (contains_cons u vs v there))
            (on.stays v vertex);
        pulsed = λ v there vertex.
            let up = first.later.pulses v vertex in
            let behind : Contains vs v → (pulse_of program net state v < pulse_of program net last v)
            ⊎ (can_pulse (last_pulse_on program net) (node_of program net last v).view ≡ false) = λ later. ⊎_elim
            (λ lt. inl (omega (arith, lt, up)))
            (λ cannot. inr cannot)
            (on.pulsed v later vertex) in
            ⊎_elim
            behind
            (λ same. ⊎_elim
            (λ is.
            let P : ℕ → Node S M → Type 0 = λ a n. (pulse_of program net state a < n.view.pulse)
            ⊎ (can_pulse (last_pulse_on program net) n.view ≡ false) in
            subst (λ n. P v n) (sym same) (subst (λ a. P a (node_of program net next a)) is turn.pulsed))
            behind
            (contains_cons u vs v there))
            (on.stays v vertex);
      }
