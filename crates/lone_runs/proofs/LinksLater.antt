-- What an event writes down, what it leaves on the links, and which events of other vertices it makes possible.
use Rattle.std.proofs.Common.{◌≡◌, ◌∙◌, ◌⊎◌, inl, inr, ⊎_elim, ℕ, suc, ◌+◌, ◌-◌, ◌<◌, List, [], ◌∷◌, ◌++◌, Option, Some, None}
use Rattle.std.proofs.Common.{arith, get_or, length, refl, sym, ap, subst}
use Rattle.std.specs.Prelude.{IsTrue, max, option_map, slice_index_or}
use Rattle.std.proofs.lemmas.Bool.{cases_eq}
use Rattle.std.proofs.lemmas.List.{get_or-set_other, length-append}
use Rattle.interference.specs.Net.{Net, IsNetwork, IsVertex, degree_of, neighbour_of, back_port_of}
use Rattle.interference.proofs.Neighbours.{at-back_port, same-port}
use Rattle.node_api.specs.Program.{Program, last_pulse_on}
use Rattle.alpha_core.specs.Program.{start_node}
use Rattle.wires.specs.StampedWires.{stamps_of}
use Rattle.alpha_core.specs.View.{Node, can_pulse, port_at}
use Rattle.wires.specs.declared.wire.Wire.{Wire}
use Rattle.entries.specs.Rows.{stamped_row, vertex_row}
use Rattle.entries.specs.declared.entry.Entry.{Entry}
use Rattle.entries.specs.declared.entry.Entry.TheVariants as entry
use Rattle.entries.specs.declared.rows.Row.{Row}
use Rattle.entries.specs.declared.rows.StampedRow.{StampedRow}
use Rattle.event_rule.specs.declared.event.Event.{Event}
use Rattle.event_rule.specs.declared.event.Event.TheVariants.{Pulse, Put, Take}
use Rattle.event_rule.specs.State.{Link, State, link_at, link_to, node_of, set_link, set_node, sent_of}
use Rattle.event_rule.specs.Events.{Possible, Ready, Steps}
use Rattle.event_rule.proofs.LinkTable.{link_other, link_same}
use Rattle.event_rule.proofs.NetKept.{NetKept}
use Rattle.event_rule.specs.Rows.{next_wire, row_of}
use Rattle.event_rule.specs.Commute.{vertex_of}
use Rattle.stamps.specs.Merged.{entries_at, puts_at, stamp_behind, takes_at}
use Rattle.stamps.specs.Stamps.{counter_of, next_stamp, taken_in}
use Rattle.stamps.proofs.Appends.{puts_append, takes_append}
use Rattle.stamps.proofs.Lists.{put_here, put_other, take_here, take_other}
use Rattle.lone_runs.specs.Ticks.{AreHeld, event_stamp}
use Rattle.lone_runs.proofs.StampsLater.{taken_above}

-- ---- what an event writes down
abbrev pub Writes : {M : Type 0} → Net → Event → ℕ → Entry M → Type 0
Writes net (Pulse v) u e = (u ≡ v) × ((p : ℕ) × (e ≡ entry.Pulse p))
Writes {M} net (Put v i) u e = (u ≡ v) × ((x : Wire M) × (e ≡ entry.Put (neighbour_of net v i) x))
Writes {M} net (Take v i) u e = (u ≡ v) × ((x : Wire M) × (e ≡ entry.Take (neighbour_of net v i) x))

by_option : {A B : Type 0} (f : A → B) (o : Option A) (b : B) → option_map f o ≡ Some b → (x : A) × (f x ≡ b)
by_option f None b is = absurd cc
by_option f (Some x) b is = (x, cc)

pub vertex_written : {M : Type 0} (net : Net) (event : Event) (u : ℕ) (e : Entry M) → Writes net event u e → u ≡ vertex_of event
vertex_written net (Pulse v) u e wrote = wrote.0
vertex_written net (Put v i) u e wrote = wrote.0
vertex_written net (Take v i) u e wrote = wrote.0

module _ {S M E : Type 0} (program : Program S M E) (net : Net) (state : State S M) where
  pub writes_of : (event : Event) (row : Row M) → row_of program net state event ≡ Some row → Writes net event row.vertex row.entry
  writes_of (Pulse v) row is =
      let same : vertex_row v (entry.Pulse ((node_of program net state v).view.pulse + 1)) ≡ row = cc in
      (sym (ap (λ (r : Row M). r.vertex) same), ((node_of program net state v).view.pulse + 1, sym (ap (λ (r : Row M). r.entry) same)))
  writes_of (Put v i) row is =
      let one = by_option (λ (wire : Wire M). vertex_row v (entry.Put (neighbour_of net v i) wire)) (next_wire program net state (Put v i)) row is in
      (sym (ap (λ (r : Row M). r.vertex) one.1), (one.0, sym (ap (λ (r : Row M). r.entry) one.1)))
  writes_of (Take v i) row is =
      let one = by_option (λ (wire : Wire M). vertex_row v (entry.Take (neighbour_of net v i) wire)) (next_wire program net state (Take v i)) row is in
      (sym (ap (λ (r : Row M). r.vertex) one.1), (one.0, sym (ap (λ (r : Row M). r.entry) one.1)))

-- its stamp is that of its row
pub stamp_is : {M : Type 0} (net : Net) (rows : List (StampedRow M)) (event : Event) (s v : ℕ) (e : Entry M) → Writes net event v e
    → stamp_behind rows (stamped_row s v e) ≡ event_stamp net rows event
stamp_is net rows (Pulse u) s v e (at, (p, is)) =
    ap (λ x. next_stamp (λ w. stamps_of (puts_at rows w v)) (entries_at rows v) x) is ∙ ap (λ k. suc (counter_of (entries_at rows k))) at
stamp_is net rows (Put u i) s v e (at, (x, is)) =
    ap (λ x. next_stamp (λ w. stamps_of (puts_at rows w v)) (entries_at rows v) x) is ∙ ap (λ k. suc (counter_of (entries_at rows k))) at
stamp_is net rows (Take u i) s v e (at, (x, is)) =
    let w = neighbour_of net u i in
    ap (λ x. next_stamp (λ w. stamps_of (puts_at rows w v)) (entries_at rows v) x) is
    ∙ ap (λ k. suc (max (counter_of (entries_at rows k)) (slice_index_or (stamps_of (puts_at rows w k)) (length (taken_in (entries_at rows k) w)) 0))) at

-- ---- the links
module _ {S M E : Type 0} {program : Program S M E} {net : Net} (ok : IsNetwork net) {state : State S M} (kept : NetKept program net state) where
  in_rows : (v : ℕ) → IsVertex net v → v - 1 < length state.links
  in_rows v vertex = omega (arith, kept.rows, vertex.0, vertex.1)

  in_row : (v i : ℕ) → IsVertex net v → i < degree_of net v → i < length (get_or state.links (v - 1) [])
  in_row v i vertex lt = omega (arith, kept.row v vertex, lt)

  link_here : (v i : ℕ) (link : Link M) → IsVertex net v → i < degree_of net v → link_at (set_link state.links v i link) v i ≡ link
  link_here v i link vertex lt = link_same state.links v i link vertex.0 (in_rows v vertex) (in_row v i vertex lt)

  link_stays : (v i : ℕ) (link : Link M) → IsVertex net v → i < degree_of net v → (u j : ℕ) → IsVertex net u → (u ≡ v → j ≡ i → ⊥)
      → link_at (set_link state.links v i link) u j ≡ link_at state.links u j
  link_stays v i link vertex lt u j vertex' apart =
      link_other state.links v i link vertex.0 (in_rows v vertex) (in_row v i vertex lt) u j vertex'.0 apart

  -- the link out of a by i is that to v by j, or its ends are others
  ends_apart : (a i v j : ℕ) → IsVertex net a → i < degree_of net a → IsVertex net v → j < degree_of net v
      → (a ≡ neighbour_of net v j → i ≡ back_port_of net v j → ⊥) → neighbour_of net a i ≡ v → a ≡ neighbour_of net v j → ⊥
  ends_apart a i v j vertex lt vertex' lt' apart to from =
      apart from (same-port net ok a i (back_port_of net v j) vertex lt
      (subst (λ k. back_port_of net v j < degree_of net k) (sym from) (ok.symmetric v j vertex' lt'))
      (to ∙ sym (at-back_port net ok v j vertex' lt') ∙ ap (λ k. neighbour_of net k (back_port_of net v j)) (sym from)))

  -- ---- each link holds what was put on it and not taken
  module _ (rows : List (StampedRow M)) (s : ℕ) (is : AreHeld net state rows) where
    abbrev more : ℕ → Entry M → List (StampedRow M)
    more u e = rows ++ (stamped_row s u e ∷ [])

    abbrev Counts : State S M → List (StampedRow M) → ℕ → ℕ → Type 0
    Counts next new a i =
        length (puts_at new a (neighbour_of net a i)) ≡ length (takes_at new (neighbour_of net a i) a) + length (link_at next.links a i).held

    -- by what a row puts on a link, and takes
    counts : (u : ℕ) (e : Entry M) (next : State S M) (a i p t : ℕ) → IsVertex net a → i < degree_of net a
        → length (puts_at (stamped_row s u e ∷ []) a (neighbour_of net a i)) ≡ p
        → length (takes_at (stamped_row s u e ∷ []) (neighbour_of net a i) a) ≡ t
        → length (link_at next.links a i).held + t ≡ length (link_at state.links a i).held + p → Counts next (more u e) a i
    counts u e next a i p t vertex lt puts takes holds =
        let w = neighbour_of net a i in
        let row : List (StampedRow M) = stamped_row s u e ∷ [] in
        let all_puts = ap (λ l. length l) (puts_append rows row a w) in
        let all_takes = ap (λ l. length l) (takes_append rows row w a) in
        let put_sum = length-append (puts_at rows a w) (puts_at row a w) in
        let take_sum = length-append (takes_at rows w a) (takes_at row w a) in
        omega (arith, is a i vertex lt, all_puts, all_takes, put_sum, take_sum, puts, takes, holds)

    after_put : (v j : ℕ) (next : State S M) (x : Wire M) → Steps program net state (Put v j) next
        → AreHeld net next (more v (entry.Put (neighbour_of net v j) x))
    after_put v j next x step a i vertex lt =
        let there = step.possible.0 in
        let w = neighbour_of net v j in
        let e : Entry M = entry.Put w x in
        let link : Link M = record (link_at state.links v j) { held = (link_at state.links v j).held ++ (step.wire ∷ []) } in
        let links : next.links ≡ set_link state.links v j link = ap (λ n. n.links) step.leads in
        let other : (a ≡ v → i ≡ j → ⊥) → Counts next (more v e) a i = λ apart.
        counts v e next a i 0 0 vertex lt
        (ap (λ l. length l) (put_other s v w a (neighbour_of net a i) x []
        (λ at to. apart at (same-port net ok v i j there.0 (subst (λ k. i < degree_of net k) at lt) there.1
        (ap (λ k. neighbour_of net k i) (sym at) ∙ to)))))
        refl
        (ap (λ l. length (link_at l a i).held + 0) links
        ∙ ap (λ (l : Link M). length l.held + 0) (link_stays v j link there.0 there.1 a i vertex apart)) in
        ⊎_elim
        (λ at. ⊎_elim
        (λ by.
        let holds = ap (λ l. length (link_at l a i).held) links ∙ ap (λ k. length (link_at (set_link state.links v j link) k i).held) at
        ∙ ap (λ k. length (link_at (set_link state.links v j link) v k).held) by ∙ ap (λ (l : Link M). length l.held) (link_here v j link there.0 there.1) in
        let old = ap (λ k. length (link_at state.links k i).held) at ∙ ap (λ k. length (link_at state.links v k).held) by in
        let sum = length-append (link_at state.links v j).held (step.wire ∷ []) in
        let to = ap (λ k. neighbour_of net k i) at ∙ ap (λ k. neighbour_of net v k) by in
        let one = ap (λ k. length (puts_at (stamped_row s v e ∷ []) k (neighbour_of net a i))) at
        ∙ ap (λ k. length (puts_at (stamped_row s v e ∷ []) v k)) to ∙ ap (λ l. length l) (put_here s v w x []) in
        counts v e next a i 1 0 vertex lt one refl (omega (arith, holds, old, sum)))
        (λ ne. other (λ _ by. ne by))
        (cases_eq i j))
        (λ ne. other (λ at _. ne at))
        (cases_eq a v)

    after_take : (v j : ℕ) (next : State S M) (x : Wire M) → Steps program net state (Take v j) next
        → AreHeld net next (more v (entry.Take (neighbour_of net v j) x))
    after_take v j next x step a i vertex lt =
        let there = step.possible.0 in
        let w = neighbour_of net v j in
        let k = back_port_of net v j in
        let e : Entry M = entry.Take w x in
        let old = link_to net state.links v j in
        let link : Link M = record { taken = old.taken ++ (step.wire ∷ []); held = step.rest } in
        let vertex' = ok.vertices v j there.0 there.1 in
        let lt' = ok.symmetric v j there.0 there.1 in
        let links : next.links ≡ set_link state.links w k link = ap (λ n. n.links) step.leads in
        let other : (a ≡ w → i ≡ k → ⊥) → Counts next (more v e) a i = λ apart.
        counts v e next a i 0 0 vertex lt
        refl
        (ap (λ l. length l) (take_other s v w (neighbour_of net a i) a x [] (λ to from. ends_apart a i v j vertex lt there.0 there.1 apart to from)))
        (ap (λ l. length (link_at l a i).held + 0) links ∙ ap (λ (l : Link M). length l.held + 0) (link_stays w k link vertex' lt' a i vertex apart)) in
        ⊎_elim
        (λ at. ⊎_elim
        (λ by.
        let holds = ap (λ l. length (link_at l a i).held) links ∙ ap (λ b. length (link_at (set_link state.links w k link) b i).held) at
        ∙ ap (λ b. length (link_at (set_link state.links w k link) w b).held) by ∙ ap (λ (l : Link M). length l.held) (link_here w k link vertex' lt') in
        let was = ap (λ b. length (link_at state.links b i).held) at ∙ ap (λ b. length (link_at state.links w b).held) by ∙ ap (λ l. length l) step.oldest in
        let to : neighbour_of net a i ≡ v = ap (λ b. neighbour_of net b i) at ∙ ap (λ b. neighbour_of net w b) by ∙ at-back_port net ok v j there.0 there.1 in
        let one = ap (λ b. length (takes_at (stamped_row s v e ∷ []) b a)) to ∙ ap (λ b. length (takes_at (stamped_row s v e ∷ []) v b)) at
        ∙ ap (λ l. length l) (take_here s v w x []) in
        counts v e next a i 0 1 vertex lt refl one (omega (arith, holds, was)))
        (λ ne. other (λ _ by. ne by))
        (cases_eq i k))
        (λ ne. other (λ at _. ne at))
        (cases_eq a w)

    pub held_more : (event : Event) (next : State S M) (u : ℕ) (e : Entry M) → Steps program net state event next → Writes net event u e
        → AreHeld net next (more u e)
    held_more (Pulse v) next u e step (at, (p, wrote)) =
        subst (λ y. AreHeld net next (more u y)) (sym wrote) (λ a i vertex lt.
        counts u (entry.Pulse p) next a i 0 0 vertex lt refl refl (ap (λ n. length (link_at n.links a i).held + 0) step.leads))
    held_more (Put v j) next u e step (at, (x, wrote)) =
        subst (λ y. AreHeld net next (more u y)) (sym wrote)
        (subst (λ k. AreHeld net next (more k (entry.Put (neighbour_of net v j) x))) (sym at) (after_put v j next x step))
    held_more (Take v j) next u e step (at, (x, wrote)) =
        subst (λ y. AreHeld net next (more u y)) (sym wrote)
        (subst (λ k. AreHeld net next (more k (entry.Take (neighbour_of net v j) x))) (sym at) (after_take v j next x step))

  -- ---- what another vertex can do after an event that it could not before: take the wire that was put, from a link that held none
  node_stays : (v u : ℕ) (node : Node S M) → IsVertex net v → IsVertex net u → (u ≡ v → ⊥)
      → get_or (set_node state.nodes v node) (u - 1) (start_node program net u) ≡ node_of program net state u
  node_stays v u node vertex vertex' ne =
      get_or-set_other state.nodes (v - 1) (u - 1) node (start_node program net u) (λ e. ne (omega (arith, e, vertex.0, vertex'.0)))

  node_is : (event : Event) (next : State S M) → Steps program net state event next → (u : ℕ) → IsVertex net u → (u ≡ vertex_of event → ⊥)
      → node_of program net next u ≡ node_of program net state u
  node_is (Pulse v) next step u vertex ne = ap (λ n. node_of program net n u) step.leads ∙ node_stays v u _ step.possible.0 vertex ne
  node_is (Put v i) next step u vertex ne = ap (λ n. node_of program net n u) step.leads ∙ node_stays v u _ step.possible.0.0 vertex ne
  node_is (Take v i) next step u vertex ne = ap (λ n. node_of program net n u) step.leads ∙ node_stays v u _ step.possible.0.0 vertex ne

  -- a put brings the first wire to the link from which an event takes
  abbrev Brings : Event → Event → Type 0
  Brings (Put v i) (Take u j) = (neighbour_of net u j ≡ v) × ((neighbour_of net v i ≡ u) × ((link_at state.links v i).held ≡ []))
  Brings event other = ⊥

  none_or_some : (l : List (Wire M)) → (l ≡ []) ⊎ (0 < length l)
  none_or_some [] = inl refl
  none_or_some (x ∷ l) = inr (omega arith)

  ready_if : (u j : ℕ) → 0 < length (link_to net state.links u j).held → Ready program net state (Take u j)
  ready_if u j some = let link = link_to net state.links u j in omega (arith, some, length-append link.taken link.held)

  take_stays : (event : Event) (next : State S M) → Steps program net state event next → (u j : ℕ) → IsVertex net u → j < degree_of net u
      → (u ≡ vertex_of event → ⊥) → Ready program net next (Take u j) → Ready program net state (Take u j) ⊎ Brings event (Take u j)
  take_stays (Pulse v) next step u j vertex lt ne ready =
      inl (subst (λ l. length (link_to net l u j).taken < length (sent_of (link_to net l u j))) (ap (λ n. n.links) step.leads) ready)
  take_stays (Take v i) next step u j vertex lt ne ready =
      let there = step.possible.0 in
      let old = link_to net state.links v i in
      let link : Link M = record { taken = old.taken ++ (step.wire ∷ []); held = step.rest } in
      let links : next.links ≡ set_link state.links (neighbour_of net v i) (back_port_of net v i) link = ap (λ n. n.links) step.leads in
      let stays = link_stays (neighbour_of net v i) (back_port_of net v i) link (ok.vertices v i there.0 there.1) (ok.symmetric v i there.0 there.1)
      (neighbour_of net u j) (back_port_of net u j) (ok.vertices u j vertex lt)
      (λ a b. ne (sym (at-back_port net ok u j vertex lt) ∙ ap (λ x. neighbour_of net x (back_port_of net u j)) a
      ∙ ap (λ x. neighbour_of net (neighbour_of net v i) x) b ∙ at-back_port net ok v i there.0 there.1)) in
      inl (subst (λ (l : Link M). length l.taken < length (sent_of l)) stays
      (subst (λ l. length (link_to net l u j).taken < length (sent_of (link_to net l u j))) links ready))
  take_stays (Put v i) next step u j vertex lt ne ready =
      let there = step.possible.0 in
      let a = neighbour_of net u j in
      let k = back_port_of net u j in
      let link : Link M = record (link_at state.links v i) { held = (link_at state.links v i).held ++ (step.wire ∷ []) } in
      let links : next.links ≡ set_link state.links v i link = ap (λ n. n.links) step.leads in
      let other : (a ≡ v → k ≡ i → ⊥) → Ready program net state (Take u j) ⊎ Brings (Put v i) (Take u j) = λ apart.
      inl (subst (λ (l : Link M). length l.taken < length (sent_of l))
      (link_stays v i link there.0 there.1 a k (ok.vertices u j vertex lt) apart)
      (subst (λ l. length (link_to net l u j).taken < length (sent_of (link_to net l u j))) links ready)) in
      ⊎_elim
      (λ at. ⊎_elim
      (λ by.
      let same : link_to net state.links u j ≡ link_at state.links v i =
      ap (λ x. link_at state.links x k) at ∙ ap (λ x. link_at state.links v x) by in
      let back : neighbour_of net v i ≡ u =
      ap (λ x. neighbour_of net x i) (sym at) ∙ ap (λ x. neighbour_of net a x) (sym by) ∙ at-back_port net ok u j vertex lt in
      ⊎_elim
      (λ none. inr (at, (back, none)))
      (λ some. inl (ready_if u j (subst (λ (l : Link M). 0 < length l.held) (sym same) some)))
      (none_or_some (link_at state.links v i).held))
      (λ ne'. other (λ _ by. ne' by))
      (cases_eq k i))
      (λ ne'. other (λ at _. ne' at))
      (cases_eq a v)

  could_before : (event other : Event) (next : State S M) → Steps program net state event next → (vertex_of other ≡ vertex_of event → ⊥)
      → Possible program net next other → Possible program net state other ⊎ Brings event other
  could_before event (Pulse u) next step ne can =
      inl (can.0, subst (λ (n : Node S M). IsTrue (can_pulse (last_pulse_on program net) n.view)) (node_is event next step u can.0 ne) can.1)
  could_before event (Put u j) next step ne can =
      inl (can.0, subst (λ (n : Node S M). 0 < length (port_at n.view j).out) (node_is event next step u can.0.0 ne) can.1)
  could_before event (Take u j) next step ne can = ⊎_elim
      (λ ready. inl (can.0, ready))
      (λ brings. inr brings)
      (take_stays event next step u j can.0.0 can.0.1 ne can.1)

  was_possible : (event : Event) (next : State S M) → Steps program net state event next → Possible program net state event
  was_possible (Pulse v) next step = step.possible
  was_possible (Put v i) next step = step.possible
  was_possible (Take v i) next step = step.possible

  -- the stamp of that take is above that of the put
  pub could_or_above : (rows : List (StampedRow M)) (s : ℕ) (event other : Event) (next : State S M) (u : ℕ) (e : Entry M) → AreHeld net state rows
      → Steps program net state event next → Writes net event u e → (vertex_of other ≡ vertex_of event → ⊥) → Possible program net next other
      → Possible program net state other ⊎ (s < event_stamp net (rows ++ (stamped_row s u e ∷ [])) other)
  could_or_above rows s event other next u e held step wrote ne can = ⊎_elim
      (λ before. inl before)
      (λ brings. inr (above event other (was_possible event next step) wrote ne brings))
      (could_before event other next step ne can)
    where
      above : (event other : Event) → Possible program net state event → Writes net event u e → (vertex_of other ≡ vertex_of event → ⊥)
          → Brings event other → s < event_stamp net (rows ++ (stamped_row s u e ∷ [])) other
      above (Put v i) (Take w j) can (at, (x, is)) ne (from, (to, none)) =
          let all : length (puts_at rows v w) ≡ length (takes_at rows w v) =
          let count = held v i can.0.0 can.0.1 in
          let empty = ap (λ l. length l) none in
          let puts = ap (λ b. length (puts_at rows v b)) to in
          let takes = ap (λ b. length (takes_at rows b v)) to in
          omega (arith, count, empty, puts, takes) in
          subst (λ y. s < event_stamp net (rows ++ (stamped_row s u y ∷ [])) (Take w j)) (sym is)
          (subst (λ k. s < event_stamp net (rows ++ (stamped_row s k (entry.Put (neighbour_of net v i) x) ∷ [])) (Take w j)) (sym at)
          (subst (λ b. s < event_stamp net (rows ++ (stamped_row s v (entry.Put b x) ∷ [])) (Take w j)) (sym to)
          (taken_above net rows s v w j x from ne all)))
      above (Pulse v) other can wrote ne brings = absurd brings
      above (Take v i) other can wrote ne brings = absurd brings
      above (Put v i) (Pulse w) can wrote ne brings = absurd brings
      above (Put v i) (Put w j) can wrote ne brings = absurd brings
