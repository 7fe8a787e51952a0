-- One event more, and none.
use Rattle.std.proofs.Common.{◌≡◌, ℕ, suc, ◌+◌, ◌-◌, ◌<◌, ◌≤◌, true, false, List, [], ◌∷◌, ◌++◌, Ok, Err, refl, sym, ap, ◌∙◌, arith, subst, ⊎_elim, ◌⊎◌, inl}
use Rattle.std.proofs.Common.{inr}
use Rattle.std.specs.Prelude.{Bool, ◌||◌}
use Rattle.std.proofs.lemmas.Bool.{cases_order}
use Rattle.std.proofs.lemmas.List.{length-append}
use Rattle.interference.specs.Net.{Net, IsNetwork, IsVertex, count_of}
use Rattle.node_api.specs.Program.{Program}
use Rattle.node_api.specs.Laws.{IsProgram}
use Rattle.alpha_laws.specs.Counts.{events_of_run}
use Rattle.alpha_laws.specs.Progress.{HasEnded}
use Rattle.alpha_laws.proofs.Runs.{runs}
use Rattle.event_rule.specs.declared.event.Event.{Event}
use Rattle.event_rule.specs.declared.event.Event.TheVariants.{Pulse, Put, Take}
use Rattle.event_rule.specs.declared.refused.StepRefused.{StepRefused}
use Rattle.event_rule.specs.State.{NetView, State, start, node_of, link_at, sent_of}
use Rattle.event_rule.specs.Simulation.{IsReachable}
use Rattle.event_rule.specs.Step.{step, run}
use Rattle.event_rule.specs.Events.{Possible, Steps, IsRunFrom}
use Rattle.event_rule.proofs.Exactly.{runs-exactly, steps-exactly}
use Rattle.event_rule.proofs.KeptRuns.{reached_kept}
use Rattle.event_rule.specs.Commute.{vertex_of}
use Rattle.event_rule.specs.Endings.{IsTerminal, IsWholeState}
use Rattle.event_rule.specs.Progress.{events_in}
use Rattle.event_rule.proofs.Maximal.{bounded, counted, end_of}
use Rattle.lone_runs.specs.Went.{Went}

module _ {S M E : Type 0} (program : Program S M E) (net : Net) (laws : IsProgram program) (ok : IsNetwork net) where
  one_more : (events : List Event) (state last next : State S M) (event : Event) → IsRunFrom program net state events last → Steps program net last event next
      → IsRunFrom program net state (events ++ (event ∷ [])) next
  one_more [] state last next event same s = (next, subst (λ l. Steps program net l event next) same s, refl)
  one_more (first ∷ events) state last next event (middle, f, rest) s = (middle, f, one_more events middle last next event rest s)

  pub one_event : (state next : State S M) (event : Event) → IsReachable program net state → step program net state event ≡ Ok next
      → events_in program net next ≡ suc (events_in program net state)
  one_event state next event (events, is) made =
      let rs = runs program laws net ok in
      let s = ((steps-exactly ok rs state (reached_kept ok rs state (events, is)) event).leads next).0 made in
      let is' : run program net (events ++ (event ∷ [])) ≡ Ok next = ((runs-exactly ok rs (events ++ (event ∷ []))).accepts next).1
      (one_more events (start program net) state next event (((runs-exactly ok rs events).accepts state).0 is) s) in
      omega (arith, counted ok rs events state is, counted ok rs (events ++ (event ∷ [])) next is', length-append events (event ∷ []))

  pub impossible : (state : State S M) (event : Event) (refused : StepRefused) → IsReachable program net state
      → step program net state event ≡ Err refused → Possible program net state event → ⊥
  impossible state event refused (events, is) refuses possible =
      let rs = runs program laws net ok in
      ⊎_elim (λ none. none.0 possible.0) (λ late. late.1 possible.1)
      (((steps-exactly ok rs state (reached_kept ok rs state (events, is)) event).refuses refused).0 refuses)

  pub at_most : (state : State S M) → IsReachable program net state → events_in program net state ≤ events_of_run program net
  at_most state (events, is) =
      let rs = runs program laws net ok in omega (arith, counted ok rs events state is, bounded ok rs events state is)

  pub at_end : (state : State S M) → IsReachable program net state → IsTerminal program net state
      → IsWholeState program net state × HasEnded program net (node_of program net state) (λ v i. sent_of (link_at state.links v i))
  at_end state (events, is) terminal =
      let end = end_of ok (runs program laws net ok) events state is terminal in (end.whole, end.ended)

module _ {S M E : Type 0} (program : Program S M E) where
  pub still : (old : NetView S M) → Went program old false old
  still old = record { net = refl; more = λ e. absurd cc; none = λ e. refl }

  pub both_false : (a b : Bool) → (a || b) ≡ false → (a ≡ false) × (b ≡ false)
  both_false true b e = absurd cc
  both_false false b e = (refl, e)

  -- one after the other
  pub then_went : (a b : Bool) {x y z : NetView S M} → Went program x a y → Went program y b z → Went program x (a || b) z
  then_went true true {x} {y} {z} one two = record {
    net = two.net ∙ one.net;
    more = λ _. let lt = one.more refl in
        let gt = subst (λ n. events_in program n y.state < events_in program n z.state) one.net (two.more refl) in omega (arith, lt, gt);
    none = λ e. absurd cc;
  }
  then_went true false {x} {y} {z} one two = record {
    net = two.net ∙ one.net;
    more = λ _. subst (λ u. events_in program x.net x.state < events_in program x.net u.state) (sym (two.none refl)) (one.more refl);
    none = λ e. absurd cc;
  }
  then_went false b {x} {y} {z} one two =
      subst (λ u. Went program u b z) (one.none refl) two

-- the ports of an event are below this one
abbrev pub Before : ℕ → Event → Type 0
Before n (Pulse v) = Unit {0}
Before n (Put v i) = i < n
Before n (Take v i) = i < n

-- no event of v by a port below this one is possible
abbrev pub StuckBefore : {S M E : Type 0} → Program S M E → NetView S M → ℕ → ℕ → Type 0
StuckBefore program at v n = (event : Event) → vertex_of event ≡ v → Before n event → Possible program at.net at.state event → ⊥

-- no event of a vertex up to this one is possible
abbrev pub StuckTo : {S M E : Type 0} → Program S M E → NetView S M → ℕ → Type 0
StuckTo program at v = (event : Event) → vertex_of event ≤ v → Possible program at.net at.state event → ⊥

pub one_of : (i n : ℕ) → i < n + 1 → (i < n) ⊎ (i ≡ n)
one_of i n lt = ⊎_elim (λ e. inr e) (λ side. ⊎_elim (λ below. inl below) (λ above. absurd (omega (arith, lt, above))) side) (cases_order i n)

module _ {S M E : Type 0} (program : Program S M E) (at : NetView S M) where
  pub stuck_more : (v n : ℕ) → StuckBefore program at v n → (Possible program at.net at.state (Take v n) → ⊥)
      → (Possible program at.net at.state (Put v n) → ⊥) → StuckBefore program at v (n + 1)
  stuck_more v n stuck take put (Pulse u) is below can = stuck (Pulse u) is tt can
  stuck_more v n stuck take put (Put u i) is below can = ⊎_elim (λ lt. stuck (Put u i) is lt can)
      (λ e. put (subst (λ j. Possible program at.net at.state (Put v j)) e (subst (λ w. Possible program at.net at.state (Put w i)) is can)))
      (one_of i n below)
  stuck_more v n stuck take put (Take u i) is below can = ⊎_elim (λ lt. stuck (Take u i) is lt can)
      (λ e. take (subst (λ j. Possible program at.net at.state (Take v j)) e (subst (λ w. Possible program at.net at.state (Take w i)) is can)))
      (one_of i n below)

  pub there : (event : Event) → Possible program at.net at.state event → IsVertex at.net (vertex_of event)
  there (Pulse v) can = can.0
  there (Put v i) can = can.0.0
  there (Take v i) can = can.0.0

  pub stuck_next : (v : ℕ) → StuckTo program at v → ((event : Event) → vertex_of event ≡ v + 1 → Possible program at.net at.state event → ⊥)
      → StuckTo program at (v + 1)
  stuck_next v stuck here event le can = ⊎_elim
      (λ e. here event e can)
      (λ side. ⊎_elim (λ lt. stuck event (omega (arith, lt)) can) (λ gt. omega (arith, le, gt)) side)
      (cases_order (vertex_of event) (v + 1))

  pub stuck_end : (n : ℕ) → count_of at.net ≤ n → StuckTo program at n → IsTerminal program at.net at.state
  stuck_end n all stuck event can = let high = (there event can).1 in stuck event (omega (arith, high, all)) can

module _ {S M E : Type 0} (program : Program S M E) where
  pub turn_more : {a b c : Bool} {x y z : NetView S M} (v n : ℕ) → Went program x b y → Went program y c z → (a ≡ false → StuckBefore program x v n)
      → (b ≡ false → Possible program y.net y.state (Take v n) → ⊥) → (c ≡ false → Possible program z.net z.state (Put v n) → ⊥)
      → (a || (b || c)) ≡ false → StuckBefore program z v (n + 1)
  turn_more {a} {b} {c} {x} {y} {z} v n one two stuck take put none =
      let first = both_false program a (b || c) none in
      let rest = both_false program b c first.1 in
      let back : y ≡ z = sym (two.none rest.1) in
      stuck_more program z v n
      (subst (λ u. StuckBefore program u v n) (sym (one.none rest.0) ∙ back) (stuck first.0))
      (subst (λ u. Possible program u.net u.state (Take v n) → ⊥) back (take rest.0))
      (put rest.1)

  pub round_more : {a b : Bool} {x y : NetView S M} (i : ℕ) → Went program x b y → (a ≡ false → StuckTo program x i)
      → (b ≡ false → (event : Event) → vertex_of event ≡ i + 1 → Possible program y.net y.state event → ⊥)
      → (a || b) ≡ false → StuckTo program y (i + 1)
  round_more {a} {b} {x} {y} i one stuck here none =
      let parts = both_false program a b none in
      stuck_next program y i (subst (λ u. StuckTo program u i) (sym (one.none parts.1)) (stuck parts.0)) (here parts.1)

  pub smaller : {did : Bool} {x y : NetView S M} → Went program x did y → did ≡ true
      → events_in program y.net y.state ≤ events_of_run program y.net
      → events_of_run program y.net - events_in program y.net y.state < events_of_run program x.net - events_in program x.net x.state
  smaller {did} {x} {y} one some most =
      let run_same = ap (λ n. events_of_run program n) one.net in
      let in_same = ap (λ n. events_in program n y.state) one.net in
      omega (arith, run_same, in_same, one.more some, most)
