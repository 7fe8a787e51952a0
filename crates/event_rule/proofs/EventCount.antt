-- How many events a state shows, as sums over its lists of nodes and links. Each event adds one.
use Rattle.std.proofs.Common.{◌≡◌, ℕ, suc, ◌+◌, ◌-◌, ◌<◌, List, [], ◌∷◌, ◌++◌, length, get_or, replicate, set, sym, ap, ◌∙◌, arith}
use Rattle.std.specs.List.{range_with_len, sum_by}
use Rattle.std.proofs.lemmas.List.{get_or_default, length-append}
use Rattle.std.proofs.lemmas.List.Folds.{sum_by-replicate}
use Rattle.std.proofs.lemmas.List.Sums.{sum_by-set}
use Rattle.interference.specs.Net.{Net, IsNetwork, IsVertex, count_of, degree_of, neighbour_of, back_port_of, vertices}
use Rattle.interference.proofs.Members.{range-bounds}
use Rattle.interference.proofs.PortSums.{ports-same}
use Rattle.interference.proofs.Sums.{sum_by-const, sum_by-map, sum_by-places, sum_by-same, sum_by-shifted}
use Rattle.node_api.specs.Program.{Program, last_pulse_on}
use Rattle.alpha_core.specs.View.{Node, inbox_of}
use Rattle.alpha_core.specs.Alpha.{put_done}
use Rattle.alpha_core.specs.Program.{start_node}
use Rattle.alpha_laws.proofs.Across.{over}
use Rattle.alpha_laws.proofs.PulseAfter.{pulsed_pulse, reaction_pulse, start_pulse}
use Rattle.alpha_laws.proofs.Sums.{by_ports}
use Rattle.event_rule.specs.declared.event.Event.{Event}
use Rattle.event_rule.specs.declared.event.Event.TheVariants.{Pulse, Put, Take}
use Rattle.event_rule.specs.State.{Link, State, no_link, node_of, link_at, link_to, sent_of, set_node, set_link, start}
use Rattle.event_rule.specs.Events.{Steps}
use Rattle.event_rule.proofs.NetKept.{NetKept}
use Rattle.event_rule.specs.Progress.{events_in}

-- the wires put on a link, and those taken from it
abbrev pub moved : {M : Type 0} → Link M → ℕ
moved link = length (sent_of link) + length link.taken

abbrev pub pulses_in : {S M : Type 0} → State S M → ℕ
pulses_in state = sum_by (λ n. n.view.pulse) state.nodes

abbrev pub moved_in : {S M : Type 0} → State S M → ℕ
moved_in state = sum_by (λ row. sum_by (λ l. moved l) row) state.links

-- at the start there are none
pub start_shows : {S M E : Type 0} (program : Program S M E) (net : Net) → pulses_in (start program net) + moved_in (start program net) ≡ 0
start_shows {S} {M} program net =
    let vs = vertices net in
    let row : ℕ → List (Link M) = λ v. replicate (degree_of net v) no_link in
    omega (
      arith,
      sum_by-map (λ n. n.view.pulse) (λ v. start_node program net v) vs,
      sum_by-same (λ v. (start_node program net v).view.pulse) (λ v. 0) vs (λ k d lt. start_pulse program net (get_or vs k d)),
      sum_by-const 0 vs,
      sum_by-map (λ (row : List (Link M)). sum_by (λ l. moved l) row) row vs,
      sum_by-same (λ v. sum_by (λ l. moved l) (row v)) (λ v. 0) vs (λ k d lt.
          omega (arith, sum_by-replicate (λ (l : Link M). moved l) (degree_of net (get_or vs k d)) no_link)),
    )

module _ {S M E : Type 0} (program : Program S M E) (net : Net) (ok : IsNetwork net) {state : State S M} (kept : NetKept program net state) where
  pulses_are : sum_by (λ v. (node_of program net state v).view.pulse) (vertices net) ≡ pulses_in state
  pulses_are =
      let pulse_of : ℕ → ℕ = λ v. (node_of program net state v).view.pulse in
      let d = start_node program net 0 in
      sum_by-shifted pulse_of 0 (count_of net)
      ∙ sum_by-same (λ k. pulse_of (k + 1)) (λ k. (get_or state.nodes k d).view.pulse) (range_with_len 0 (count_of net)) (λ j e lt.
      let k = get_or (range_with_len 0 (count_of net)) j e in
      let bounds = range-bounds 0 (count_of net) j e lt in
      let low : k + 1 - 1 ≡ k = omega arith in
      ap (λ m. (get_or state.nodes m (start_node program net (k + 1))).view.pulse) low
      ∙ ap (λ n. n.view.pulse) (get_or_default state.nodes k (start_node program net (k + 1)) d (omega (arith, bounds.1, kept.nodes))))
      ∙ ap (λ n. sum_by (λ k. (get_or state.nodes k d).view.pulse) (range_with_len 0 n)) (sym kept.nodes)
      ∙ sum_by-places (λ n. n.view.pulse) state.nodes d

  pub shows : events_in program net state ≡ pulses_in state + moved_in state
  shows =
      omega (
        arith,
        pulses_are,
        ports-same net _ (λ v i. moved (link_at state.links v i)) (λ v i vertex lt.
            ap (λ l. length (sent_of (link_at state.links v i)) + length l) (over net ok (λ u k. (link_at state.links u k).taken) v i vertex lt)),
        by_ports net (λ l. moved l) state.links no_link kept.rows kept.row,
      )

  node_set : (v : ℕ) (node : Node S M) → IsVertex net v →
      sum_by (λ n. n.view.pulse) (set_node state.nodes v node) + (node_of program net state v).view.pulse ≡ pulses_in state + node.view.pulse
  node_set v node vertex = sum_by-set (λ n. n.view.pulse) state.nodes (v - 1) node (start_node program net v) (omega (arith, kept.nodes, vertex.0, vertex.1))

  link_set : (v i : ℕ) (link : Link M) → IsVertex net v → i < degree_of net v →
      sum_by (λ row. sum_by (λ l. moved l) row) (set_link state.links v i link) + moved (link_at state.links v i) ≡ moved_in state + moved link
  link_set v i link vertex lt =
      let row = get_or state.links (v - 1) [] in
      omega (
        arith,
        sum_by-set (λ row. sum_by (λ l. moved l) row) state.links (v - 1) (set row i link) [] (omega (arith, kept.rows, vertex.0, vertex.1)),
        sum_by-set (λ l. moved l) row i link no_link (omega (arith, kept.row v vertex, lt)),
      )

  pub one_more_shows : (event : Event) (next : State S M) → Steps program net state event next
      → pulses_in next + moved_in next ≡ suc (pulses_in state + moved_in state)
  one_more_shows (Pulse v) next s =
      let node = node_of program net state v in
      omega (
        arith,
        ap (λ s. pulses_in s) s.leads,
        ap (λ s. moved_in s) s.leads,
        node_set v s.node s.possible.0,
        pulsed_pulse (last_pulse_on program net) node s.node (program.next node.state (suc node.view.pulse) (inbox_of node.view)) s.pulsed,
      )
  one_more_shows (Put v i) next s =
      let old = link_at state.links v i in
      let there = s.possible.0 in
      omega (
        arith,
        ap (λ s. pulses_in s) s.leads,
        ap (λ s. moved_in s) s.leads,
        node_set v record (node_of program net state v) { view = put_done (node_of program net state v).view i } there.0,
        link_set v i record old { held = old.held ++ (s.wire ∷ []) } there.0 there.1,
        length-append old.taken old.held,
        length-append old.taken (old.held ++ (s.wire ∷ [])),
        length-append old.held (s.wire ∷ []),
      )
  one_more_shows (Take v i) next s =
      let old = link_to net state.links v i in
      let there = s.possible.0 in
      omega (
        arith,
        ap (λ s. pulses_in s) s.leads,
        ap (λ s. moved_in s) s.leads,
        node_set v record (node_of program net state v) { view = s.view } there.0,
        reaction_pulse (last_pulse_on program net) (node_of program net state v).view s.view i s.wire s.reacted,
        link_set (neighbour_of net v i) (back_port_of net v i) record { taken = old.taken ++ (s.wire ∷ []); held = s.rest }
            (ok.vertices v i there.0 there.1) (ok.symmetric v i there.0 there.1),
        length-append old.taken old.held,
        length-append (old.taken ++ (s.wire ∷ [])) s.rest,
        length-append old.taken (s.wire ∷ []),
        ap (λ l. length l) s.oldest,
      )
