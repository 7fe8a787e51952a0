-- Attempts, turns and ticks. The plan: an event of a node puts the stamps of its other events above its own (`made`), and an attempt that made
-- none leaves the event no stamp in this tick (`misplaced`); so after a tick no event that is possible has its stamp, and a tick that made none was
-- the last (`tick_none`).
use Rattle.std.proofs.Common.{◌≡◌, ◌∙◌, inl, inr, ⊎_elim, ℕ, zero, suc, ◌+◌, ◌<◌, ◌≤◌, List, [], ◌∷◌, ◌++◌, ◌-◌, Ok, map, length}
use Rattle.std.proofs.Common.{replicate, arith, get_or, refl, sym, ap, subst}
use Rattle.std.specs.Prelude.{All}
use Rattle.std.proofs.lemmas.Bool.{cases_eq, cases_order}
use Rattle.std.proofs.lemmas.List.Elements.{All-nil, All-push, All-weaker}
use Rattle.interference.specs.Net.{Net, IsNetwork, count_of, degree_of, vertices}
use Rattle.node_api.specs.Program.{Program}
use Rattle.node_api.specs.Laws.{IsProgram}
use Rattle.alpha_laws.proofs.Runs.{runs}
use Rattle.entries.specs.Rows.{stamped_row}
use Rattle.entries.specs.declared.entry.Entry.{Entry}
use Rattle.entries.specs.declared.entry.Entry.TheVariants as entry
use Rattle.entries.specs.declared.rows.StampedRow.{StampedRow}
use Rattle.event_rule.specs.declared.event.Event.{Event}
use Rattle.event_rule.specs.declared.event.Event.TheVariants.{Pulse, Put, Take}
use Rattle.event_rule.specs.State.{Link, NetView, State, link_at, no_link, start}
use Rattle.event_rule.specs.Events.{Possible, Steps}
use Rattle.event_rule.specs.Simulation.{IsReachable}
use Rattle.event_rule.specs.Step.{step}
use Rattle.event_rule.proofs.Exactly.{steps-exactly}
use Rattle.event_rule.proofs.KeptRuns.{reached_kept}
use Rattle.event_rule.specs.Commute.{vertex_of}
use Rattle.event_rule.specs.Endings.{IsTerminal}
use Rattle.stamps.specs.Merged.{IsInPlace, Precedes}
use Rattle.lone_runs.specs.Ticks.{IsAbove, IsBeforeTick, IsInTurn, IsPassed, event_stamp}
use Rattle.lone_runs.proofs.Events.{Before, one_of, there}
use Rattle.lone_runs.proofs.LinksLater.{Writes, could_or_above, held_more, stamp_is, vertex_written}
use Rattle.lone_runs.proofs.StampsLater.{own_above, stamp_grows, stamp_within}

module _ {S M E : Type 0} (program : Program S M E) (net : Net) where
  -- ---- an attempt that makes the event
  module _ (laws : IsProgram program) (ok : IsNetwork net) (rows : List (StampedRow M)) (state next : State S M) (event : Event) (s u : ℕ) (e : Entry M)
      (reached : IsReachable program net state) (leads : step program net state event ≡ Ok next) (wrote : Writes net event u e) where
    abbrev more : List (StampedRow M)
    more = rows ++ (stamped_row s u e ∷ [])

    is : u ≡ vertex_of event
    is = vertex_written net event u e wrote

    steps : Steps program net state event next
    steps = let rs = runs program laws net ok in ((steps-exactly ok rs state (reached_kept ok rs state reached) event).leads next).0 leads

    pub made : IsInTurn program net state rows s (vertex_of event) → IsInTurn program net next more s (vertex_of event)
    made turn =
        let kept = reached_kept ok (runs program laws net ok) state reached in
        record {
          held = held_more ok kept rows s turn.held event next u e steps wrote;
          below = All-push (λ (r : StampedRow M). Precedes r (stamped_row s (vertex_of event) (entry.Pulse 0))) rows (stamped_row s u e) turn.below
              (inr (refl, omega (arith, is)));
          late = λ other can. ⊎_elim
              (λ same. let above = own_above net rows s u e other same in omega (arith, above))
              (λ ne. ⊎_elim
              (λ before. let old = turn.late other before in let grows = stamp_grows net rows s u e other ne in omega (arith, old, grows))
              (λ above. omega (arith, above))
              (could_or_above ok kept rows s event other next u e turn.held steps wrote (λ a. ne (a ∙ sym is)) can))
              (cases_eq (vertex_of other) u);
          passed = λ other lt can. ⊎_elim
              (λ same. own_above net rows s u e other same)
              (λ ne. ⊎_elim
              (λ before. let old = turn.passed other lt before in let grows = stamp_grows net rows s u e other ne in omega (arith, old, grows))
              (λ above. above)
              (could_or_above ok kept rows s event other next u e turn.held steps wrote (λ a. ne (a ∙ sym is)) can))
              (cases_eq (vertex_of other) u);
        }

    -- all other events of its node are above, too
    pub own : (other : Event) → vertex_of other ≡ vertex_of event → IsAbove program net next more s other
    own other same can = own_above net rows s u e other (same ∙ sym is)

  -- ---- and one that doesn't, since the event has another stamp
  pub misplaced : (rows : List (StampedRow M)) (state : State S M) (event : Event) (s u : ℕ) (e : Entry M) → Writes net event u e
      → IsInTurn program net state rows s (vertex_of event) → (IsInPlace rows (stamped_row s u e) → ⊥) → IsAbove program net state rows s event
  misplaced rows state event s u e wrote turn out can =
      let late = turn.late event can in
      let below : All (λ r. Precedes r (stamped_row s u e)) rows =
      subst (λ k. All (λ (r : StampedRow M). Precedes r (stamped_row s k e)) rows) (sym (vertex_written net event u e wrote)) turn.below in
      ⊎_elim
      (λ same. absurd (out (below, same ∙ sym (stamp_is net rows event s u e wrote))))
      (λ side. ⊎_elim (λ lt. lt) (λ gt. absurd (omega (arith, late, gt))) side)
      (cases_order s (event_stamp net rows event))

  -- ---- a turn
  -- the events of v by ports below this one are above
  abbrev pub OwnAbove : State S M → List (StampedRow M) → ℕ → ℕ → ℕ → Type 0
  OwnAbove state rows s v n = (event : Event) → vertex_of event ≡ v → Before n event → IsAbove program net state rows s event

  pub own_first : (state : State S M) (rows : List (StampedRow M)) (s v : ℕ) → IsAbove program net state rows s (Pulse v) → OwnAbove state rows s v 0
  own_first state rows s v here (Pulse u) is below = subst (λ w. IsAbove program net state rows s (Pulse w)) (sym is) here
  own_first state rows s v here (Put u i) is below = omega (arith, below)
  own_first state rows s v here (Take u i) is below = omega (arith, below)

  pub own_all : (state : State S M) (rows : List (StampedRow M)) (s v n : ℕ) → degree_of net v ≤ n → OwnAbove state rows s v n
      → (event : Event) → vertex_of event ≡ v → IsAbove program net state rows s event
  own_all state rows s v n all above (Pulse u) is can = above (Pulse u) is tt can
  own_all state rows s v n all above (Put u i) is can =
      let lt = subst (λ w. i < degree_of net w) is can.0.1 in above (Put u i) is (omega (arith, lt, all)) can
  own_all state rows s v n all above (Take u i) is can =
      let lt = subst (λ w. i < degree_of net w) is can.0.1 in above (Take u i) is (omega (arith, lt, all)) can

  pub turn_over : (state : State S M) (rows : List (StampedRow M)) (s v : ℕ) → IsInTurn program net state rows s v
      → ((event : Event) → vertex_of event ≡ v → IsAbove program net state rows s event) → IsInTurn program net state rows s (v + 1)
  turn_over state rows s v turn above = record {
    held = turn.held;
    below = All-weaker (λ (r : StampedRow M). Precedes r (stamped_row s v (entry.Pulse 0))) (λ r. Precedes r (stamped_row s (v + 1) (entry.Pulse 0)))
        (λ r before. ⊎_elim (λ lt. inl lt) (λ same. let le = same.1 in inr (same.0, omega (arith, le))) before) rows turn.below;
    late = turn.late;
    passed = λ other lt can. ⊎_elim
        (λ same. above other same can)
        (λ ne. turn.passed other (smaller (vertex_of other) lt ne) can)
        (cases_eq (vertex_of other) v);
  }
    where
      smaller : (u : ℕ) → u < v + 1 → (u ≡ v → ⊥) → u < v
      smaller u lt ne = ⊎_elim (λ same. absurd (ne same)) (λ side. ⊎_elim (λ less. less) (λ gt. absurd (omega (arith, lt, gt))) side) (cases_order u v)

  -- ---- a tick
  vertex_there : (state : State S M) (event : Event) → Possible program net state event → (1 ≤ vertex_of event) × (vertex_of event ≤ count_of net)
  vertex_there state event can = there program record { net = net; state = state } event can

  pub tick_turn : (state : State S M) (rows : List (StampedRow M)) (s : ℕ) → IsBeforeTick program net state rows s → IsInTurn program net state rows s 1
  tick_turn state rows s tick = record {
    held = tick.held;
    below = All-weaker (λ (r : StampedRow M). r.stamp < s) (λ r. Precedes r (stamped_row s 1 (entry.Pulse 0))) (λ r lt. inl lt) rows tick.earlier;
    late = tick.late;
    passed = λ other lt can. let low = (vertex_there state other can).0 in absurd (omega (arith, low, lt));
  }

  all_passed : (state : State S M) (rows : List (StampedRow M)) (s i : ℕ) → count_of net ≤ i → IsInTurn program net state rows s (i + 1)
      → (event : Event) → IsAbove program net state rows s event
  all_passed state rows s i all turn event can =
      let high = (vertex_there state event can).1 in turn.passed event (omega (arith, high, all)) can

  pub tick_next : (state : State S M) (rows : List (StampedRow M)) (s i : ℕ) → count_of net ≤ i → IsInTurn program net state rows s (i + 1)
      → IsBeforeTick program net state rows (s + 1)
  tick_next state rows s i all turn = record {
    held = turn.held;
    first = omega arith;
    earlier = All-weaker (λ (r : StampedRow M). Precedes r (stamped_row s (i + 1) (entry.Pulse 0))) (λ r. r.stamp < s + 1)
        (λ r before. ⊎_elim (λ lt. omega (arith, lt)) (λ same. let e = same.0 in omega (arith, e)) before) rows turn.below;
    late = λ event can. let above = all_passed state rows s i all turn event can in omega (arith, above);
  }

  pub tick_none : (state : State S M) (rows : List (StampedRow M)) (s i : ℕ) → count_of net ≤ i → IsBeforeTick program net state rows s
      → IsInTurn program net state rows s (i + 1) → IsTerminal program net state
  tick_none state rows s i all tick turn event can =
      let above = all_passed state rows s i all turn event can in
      let within = stamp_within s tick.first net rows tick.earlier event in
      absurd (omega (arith, above, within))

  -- ---- the start
  none_of : (n i : ℕ) → get_or (replicate n (no_link {M = M})) i no_link ≡ no_link
  none_of zero i = refl
  none_of (suc n) zero = refl
  none_of (suc n) (suc i) = none_of n i

  none_in : (vs : List ℕ) (k i : ℕ) → get_or (get_or (map (λ v. replicate (degree_of net v) (no_link {M = M})) vs) k []) i no_link ≡ no_link
  none_in [] k i = refl
  none_in (v ∷ vs) zero i = none_of (degree_of net v) i
  none_in (v ∷ vs) (suc k) i = none_in vs k i

  first_stamp : (event : Event) → 1 ≤ event_stamp {M = M} net [] event
  first_stamp (Pulse v) = omega arith
  first_stamp (Put v i) = omega arith
  first_stamp (Take v i) = omega arith

  pub first_tick : IsBeforeTick program net (start program net) [] 1
  first_tick = record {
    held = λ v i vertex lt.
        let none : length (link_at (start program net).links v i).held ≡ 0 = ap (λ (l : Link M). length l.held) (none_in (vertices net) (v - 1) i) in
        omega (arith, none);
    first = omega arith;
    earlier = All-nil (λ (r : StampedRow M). r.stamp < 1);
    late = λ event can. first_stamp event;
  }

-- ---- one attempt after the other
module _ {S M E : Type 0} (program : Program S M E) where
  pub own_more : (x y z : NetView S M) (a b c : List (StampedRow M)) (s v n : ℕ) → OwnAbove program x.net x.state a s v n
      → IsPassed program x a y b s (Take v n) → IsPassed program y b z c s (Put v n) → OwnAbove program z.net z.state c s v (n + 1)
  own_more x y z a b c s v n above took put (Pulse u) is below = put.others (Pulse u) is (took.others (Pulse u) is (above (Pulse u) is tt))
  own_more x y z a b c s v n above took put (Put u i) is below = ⊎_elim
      (λ lt. put.others (Put u i) is (took.others (Put u i) is (above (Put u i) is lt)))
      (λ e. subst (λ w. IsAbove program z.net z.state c s (Put w i)) (sym is) (subst (λ j. IsAbove program z.net z.state c s (Put v j)) (sym e) put.here))
      (one_of i n below)
  own_more x y z a b c s v n above took put (Take u i) is below = ⊎_elim
      (λ lt. put.others (Take u i) is (took.others (Take u i) is (above (Take u i) is lt)))
      (λ e. put.others (Take u i) is
      (subst (λ w. IsAbove program y.net y.state b s (Take w i)) (sym is) (subst (λ j. IsAbove program y.net y.state b s (Take v j)) (sym e) took.here)))
      (one_of i n below)
