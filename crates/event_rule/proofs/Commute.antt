-- Two events of different nodes. They are at one link only if one puts a wire behind those of which the other takes the first.
use Rattle.std.proofs.Common.{◌≡◌, ℕ, ◌-◌, ◌<◌, ◌≤◌, List, ◌∷◌, ◌++◌, take, drop, set, refl, sym, ap, ◌∙◌, arith, subst, ⊎_elim}
use Rattle.std.proofs.lemmas.Bool.{cases_eq}
use Rattle.std.proofs.lemmas.List.{get_or-set_other, set_comm}
use Rattle.interference.specs.Net.{Net, IsNetwork, IsVertex, degree_of, neighbour_of, back_port_of}
use Rattle.interference.proofs.Neighbours.{at-back_port}
use Rattle.node_api.specs.Program.{Program}
use Rattle.wires.specs.declared.wire.Wire.{Wire}
use Rattle.alpha_core.specs.View.{Node, port_at}
use Rattle.alpha_core.specs.Program.{start_node}
use Rattle.event_rule.specs.declared.event.Event.{Event}
use Rattle.event_rule.specs.declared.event.Event.TheVariants.{Pulse, Put, Take}
use Rattle.event_rule.specs.State.{Link, State, HasLink, node_of, link_at, link_to, set_link, take_one}
use Rattle.event_rule.specs.Events.{Exists, Steps}
use Rattle.event_rule.proofs.LinkTable.{link_same, link_other}
use Rattle.event_rule.proofs.NetKept.{NetKept}
use Rattle.event_rule.specs.Commute.{vertex_of}
use Rattle.event_rule.proofs.Fires.{Fires, change, fires, leads_to, put_first, steps}
use Rattle.event_rule.proofs.Tables.{links-both}

-- the first wire of a link is taken and another put behind it, in either order
one_link : {M : Type 0} (link : Link M) (out : List (Wire M)) (wire : Wire M) (rest : List (Wire M)) → link.held ≡ wire ∷ rest
    → take_one (put_first out link) ≡ put_first out (take_one link)
one_link {M} link out wire rest e =
    let one : List (Wire M) → Link M = λ h. record { taken = link.taken ++ take 1 (h ++ take 1 out); held = drop 1 (h ++ take 1 out) } in
    let two : List (Wire M) → Link M = λ h. record { taken = link.taken ++ take 1 h; held = drop 1 h ++ take 1 out } in
    ap one e ∙ ap two (sym e)

module _ {S M E : Type 0} {program : Program S M E} {net : Net} (ok : IsNetwork net) {state : State S M} (kept : NetKept program net state) where
  abbrev links : List (List (Link M))
  links = state.links

  has_link : (v i : ℕ) → IsVertex net v → i < degree_of net v → HasLink links v i
  has_link v i vertex lt = (vertex.0, omega (arith, kept.rows, vertex.0, vertex.1), omega (arith, kept.row v vertex, lt))

  has_link_to : (v i : ℕ) → IsVertex net v → i < degree_of net v → HasLink links (neighbour_of net v i) (back_port_of net v i)
  has_link_to v i vertex lt = has_link (neighbour_of net v i) (back_port_of net v i) (ok.vertices v i vertex lt) (ok.symmetric v i vertex lt)

  -- the links that come to two vertices differ
  apart : (v i u j : ℕ) → IsVertex net v → i < degree_of net v → IsVertex net u → j < degree_of net u → (v ≡ u → ⊥)
      → neighbour_of net v i ≡ neighbour_of net u j → back_port_of net v i ≡ back_port_of net u j → ⊥
  apart v i u j vertex lt vertex' lt' ne a b =
      ne (sym (at-back_port net ok v i vertex lt) ∙ ap (λ x. neighbour_of net x (back_port_of net v i)) a
      ∙ ap (λ x. neighbour_of net (neighbour_of net u j) x) b ∙ at-back_port net ok u j vertex' lt')

  -- the links after both
  put_take : (v i u j : ℕ) (node other : Node S M) (wire : Wire M) (rest : List (Wire M)) → IsVertex net v → i < degree_of net v
      → IsVertex net u → j < degree_of net u → (link_to net links u j).held ≡ wire ∷ rest
      → change net (Take u j) other (change net (Put v i) node links) ≡ change net (Put v i) node (change net (Take u j) other links)
  put_take v i u j node other wire rest vertex lt vertex' lt' holds =
      let out = (port_at node.view i).out in
      links-both links v i (neighbour_of net u j) (back_port_of net u j) (λ l. put_first out l) (λ l. take_one l) (has_link v i vertex lt)
      (has_link_to u j vertex' lt')
      (λ a b. one_link (link_at links v i) out wire rest
      (ap (λ x. (link_at links x i).held) a ∙ ap (λ k. (link_at links (neighbour_of net u j) k).held) b ∙ holds))

  both_links : (event other : Event) (node node' next next' : Node S M) → (vertex_of event ≡ vertex_of other → ⊥) → Exists net event → Exists net other
      → Fires program net event node links next → Fires program net other node' links next'
      → change net other node' (change net event node links) ≡ change net event node (change net other node' links)
  both_links (Pulse v) other node node' next next' ne here there one two = refl
  both_links (Put v i) (Pulse u) node node' next next' ne here there one two = refl
  both_links (Put v i) (Put u j) node node' next next' ne here there one two =
      links-both links v i u j (λ l. put_first (port_at node.view i).out l) (λ l. put_first (port_at node'.view j).out l) (has_link v i here.0 here.1)
      (has_link u j there.0 there.1) (λ a b. absurd (ne a))
  both_links (Put v i) (Take u j) node node' next next' ne here there one (wire, rest, view, holds, reacted, is) =
      put_take v i u j node node' wire rest here.0 here.1 there.0 there.1 holds
  both_links (Take v i) (Pulse u) node node' next next' ne here there one two = refl
  both_links (Take v i) (Put u j) node node' next next' ne here there (wire, rest, view, holds, reacted, is) two =
      sym (put_take u j v i node' node wire rest there.0 there.1 here.0 here.1 holds)
  both_links (Take v i) (Take u j) node node' next next' ne here there one two =
      links-both links (neighbour_of net v i) (back_port_of net v i) (neighbour_of net u j) (back_port_of net u j) (λ l. take_one l) (λ l. take_one l)
      (has_link_to v i here.0 here.1) (has_link_to u j there.0 there.1)
      (λ a b. absurd (apart v i u j here.0 here.1 there.0 there.1 ne a b))

  -- a link that comes to a vertex keeps its first wire, whatever another vertex does
  still_holds : (v i : ℕ) (other : Event) (node : Node S M) (wire : Wire M) (rest : List (Wire M)) → IsVertex net v → i < degree_of net v
      → (v ≡ vertex_of other → ⊥) → Exists net other → (link_to net links v i).held ≡ wire ∷ rest
      → (more : List (Wire M)) × ((link_to net (change net other node links) v i).held ≡ wire ∷ more)
  still_holds v i (Pulse u) node wire rest vertex lt ne there holds = (rest, holds)
  still_holds v i (Put u j) node wire rest vertex lt ne there holds =
      let a = neighbour_of net v i in
      let k = back_port_of net v i in
      let (low, rows, row) = has_link u j there.0 there.1 in
      let new = put_first (port_at node.view j).out (link_at links u j) in
      let low' : 1 ≤ a = (ok.vertices v i vertex lt).0 in
      ⊎_elim
      (λ same. ⊎_elim
      (λ same'. (
        rest ++ take 1 (port_at node.view j).out,
        ap (λ x. (link_at (set_link links u j new) x k).held) same ∙ ap (λ x. (link_at (set_link links u j new) u x).held) same'
            ∙ ap (λ l. l.held) (link_same links u j new low rows row)
            ∙ ap (λ h. h ++ take 1 (port_at node.view j).out)
            (ap (λ x. (link_at links u x).held) (sym same') ∙ ap (λ x. (link_at links x k).held) (sym same) ∙ holds),
      ))
      (λ ne'. (rest, ap (λ l. l.held) (link_other links u j new low rows row a k low' (λ x y. ne' y)) ∙ holds))
      (cases_eq k j))
      (λ ne'. (rest, ap (λ l. l.held) (link_other links u j new low rows row a k low' (λ x y. ne' x)) ∙ holds))
      (cases_eq a u)
  still_holds v i (Take u j) node wire rest vertex lt ne there holds =
      let (low, rows, row) = has_link_to u j there.0 there.1 in (
        rest,
        ap (λ l. l.held) (link_other links (neighbour_of net u j) (back_port_of net u j) (take_one (link_to net links u j)) low rows row
            (neighbour_of net v i) (back_port_of net v i) (ok.vertices v i vertex lt).0
            (λ a b. apart v i u j vertex lt there.0 there.1 ne a b)) ∙ holds,
      )

  still_fires : (event other : Event) (node node' next : Node S M) → (vertex_of event ≡ vertex_of other → ⊥) → Exists net event → Exists net other
      → Fires program net event node links next → Fires program net event node (change net other node' links) next
  still_fires (Pulse v) other node node' next ne here there one = one
  still_fires (Put v i) other node node' next ne here there one = one
  still_fires (Take v i) other node node' next ne here there (wire, rest, view, holds, reacted, is) =
      let still = still_holds v i other node' wire rest here.0 here.1 ne there holds in
      (wire, still.0, view, still.1, reacted, is)

  vertex_is : (event : Event) → Exists net event → IsVertex net (vertex_of event)
  vertex_is (Pulse v) there = there
  vertex_is (Put v i) there = there.0
  vertex_is (Take v i) there = there.0

  -- the node of another vertex stays
  node_stays : (event : Event) (next : Node S M) (u : ℕ) → Exists net event → IsVertex net u → (vertex_of event ≡ u → ⊥)
      → node_of program net (leads_to program net state event next) u ≡ node_of program net state u
  node_stays event next u there vertex ne =
      let low : 1 ≤ vertex_of event = (vertex_is event there).0 in
      get_or-set_other state.nodes (vertex_of event - 1) (u - 1) next (start_node program net u) (λ e. ne (omega (arith, e, low, vertex.0)))

  -- each after the other, and the same state
  after_other : (event other : Event) (next next' : Node S M) → (vertex_of event ≡ vertex_of other → ⊥) → Exists net event → Exists net other
      → Fires program net other (node_of program net state (vertex_of other)) links next'
      → Steps program net (leads_to program net state event next) other (leads_to program net (leads_to program net state event next) other next')
  after_other event other next next' ne here there two =
      let u = vertex_of other in
      let stays = node_stays event next u here (vertex_is other there) ne in
      steps program net (leads_to program net state event next) other next' there
      (subst (λ n. Fires program net other n (change net event (node_of program net state (vertex_of event)) links) next') (sym stays)
      (still_fires other event (node_of program net state u) (node_of program net state (vertex_of event)) next' (λ e. ne (sym e)) there here two))

  same_state : (event other : Event) (next next' : Node S M) → (vertex_of event ≡ vertex_of other → ⊥) → Exists net event → Exists net other
      → Fires program net event (node_of program net state (vertex_of event)) links next
      → Fires program net other (node_of program net state (vertex_of other)) links next'
      → leads_to program net (leads_to program net state other next') event next ≡ leads_to program net (leads_to program net state event next) other next'
  same_state event other next next' ne here there one two =
      let v = vertex_of event in
      let u = vertex_of other in
      let node = node_of program net state v in
      let node' = node_of program net state u in
      let low : 1 ≤ v = (vertex_is event here).0 in
      let low' : 1 ≤ u = (vertex_is other there).0 in
      let nodes : set (set state.nodes (u - 1) next') (v - 1) next ≡ set (set state.nodes (v - 1) next) (u - 1) next' =
      set_comm state.nodes (u - 1) (v - 1) next' next (λ e. ne (omega (arith, e, low, low'))) in
      let first : change net event (node_of program net (leads_to program net state other next') v) (change net other node' links)
      ≡ change net event node (change net other node' links) =
      ap (λ n. change net event n (change net other node' links)) (node_stays other next' v there (vertex_is event here) (λ e. ne (sym e))) in
      let second : change net other node' (change net event node links)
      ≡ change net other (node_of program net (leads_to program net state event next) u) (change net event node links) =
      ap (λ n. change net other n (change net event node links)) (sym (node_stays event next u here (vertex_is other there) ne)) in
      let all = first ∙ sym (both_links event other node node' next next' ne here there one two) ∙ second in
      ap (λ l. record { nodes = set (set state.nodes (u - 1) next') (v - 1) next; links = l }) all
      ∙ ap (λ l. record {
        nodes = l;
        links = change net other (node_of program net (leads_to program net state event next) u) (change net event node links);
      }) nodes

  pub commute : (one two : State S M) (event other : Event) → (vertex_of event ≡ vertex_of other → ⊥)
      → Steps program net state event one → Steps program net state other two
      → (both : State S M) × Steps program net one other both × Steps program net two event both
  commute one two event other ne s s' =
      let (here, (next, f, is)) = fires program net state one event s in
      let (there, (next', f', is')) = fires program net state two other s' in
      let both = leads_to program net (leads_to program net state event next) other next' in (
        both,
        subst (λ x. Steps program net x other both) (sym is) (after_other event other next next' ne here there f'),
        subst (λ x. Steps program net x event both) (sym is')
            (subst (λ x. Steps program net (leads_to program net state other next') event x) (same_state event other next next' ne here there f f')
            (after_other other event next' next (λ e. ne (sym e)) there here f)),
      )
