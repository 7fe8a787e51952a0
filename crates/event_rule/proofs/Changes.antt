-- What an event leaves as it was: each link but the one that it changes, and each node but the one whose event it is. So
-- what holds of the link that changes, and of any link and itself, holds of all links before and after; and if the
-- pulse of its node didn't fall, no pulse did.
use Rattle.std.proofs.Common.{◌≡◌, ⊎_elim, ℕ, ◌-◌, ◌<◌, ◌≤◌, [], get_or, length, sym, ap, ◌∙◌, arith, subst}
use Rattle.std.proofs.lemmas.Bool.{cases_eq}
use Rattle.std.proofs.lemmas.List.{get_or-set_other, get_or-set_same}
use Rattle.interference.specs.Net.{Net, IsNetwork, IsVertex, degree_of}
use Rattle.node_api.specs.Program.{Program}
use Rattle.alpha_core.specs.Program.{start_node}
use Rattle.alpha_core.specs.View.{Node}
use Rattle.event_rule.specs.declared.event.Event.{Event}
use Rattle.event_rule.specs.declared.event.Event.TheVariants.{Pulse, Put, Take}
use Rattle.event_rule.specs.State.{Link, State, link_at, node_of, set_link, set_node}
use Rattle.event_rule.specs.Events.{Steps}
use Rattle.event_rule.proofs.LinkTable.{link_other, link_same}
use Rattle.event_rule.proofs.NetKept.{NetKept}
use Rattle.event_rule.specs.Commute.{vertex_of}

module _ {S M E : Type 0} (program : Program S M E) (net : Net) where
  abbrev pub pulse_of : State S M → ℕ → ℕ
  pulse_of state v = (node_of program net state v).view.pulse

module _ {S M E : Type 0} {program : Program S M E} {net : Net} (ok : IsNetwork net) {state : State S M} (kept : NetKept program net state) where
  in_rows : (v : ℕ) → IsVertex net v → v - 1 < length state.links
  in_rows v vertex = omega (arith, kept.rows, vertex.0, vertex.1)

  in_row : (v i : ℕ) → IsVertex net v → i < degree_of net v → i < length (get_or state.links (v - 1) [])
  in_row v i vertex lt = omega (arith, kept.row v vertex, lt)

  link_here : (v i : ℕ) (link : Link M) → IsVertex net v → i < degree_of net v → link_at (set_link state.links v i link) v i ≡ link
  link_here v i link vertex lt = link_same state.links v i link vertex.0 (in_rows v vertex) (in_row v i vertex lt)

  link_stays : (v i : ℕ) (link : Link M) → IsVertex net v → i < degree_of net v → (u j : ℕ) → IsVertex net u → (u ≡ v → j ≡ i → ⊥)
      → link_at (set_link state.links v i link) u j ≡ link_at state.links u j
  link_stays v i link vertex lt u j vertex' apart =
      link_other state.links v i link vertex.0 (in_rows v vertex) (in_row v i vertex lt) u j vertex'.0 apart

  -- what holds of the link that changes, and of each link and itself, holds of all links
  pub all_links : (R : Link M → Link M → Type 0) → ((l : Link M) → R l l) → (v i : ℕ) (link : Link M) → IsVertex net v → i < degree_of net v
      → R (link_at state.links v i) link → (u j : ℕ) → IsVertex net u → R (link_at state.links u j) (link_at (set_link state.links v i link) u j)
  all_links R same v i link vertex lt here u j vertex' =
      let other : (u ≡ v → j ≡ i → ⊥) → R (link_at state.links u j) (link_at (set_link state.links v i link) u j) = λ apart.
      subst (λ l. R (link_at state.links u j) l) (sym (link_stays v i link vertex lt u j vertex' apart)) (same (link_at state.links u j)) in
      ⊎_elim
      (λ at. ⊎_elim
      (λ by. subst (λ a. R (link_at state.links a j) (link_at (set_link state.links v i link) a j)) (sym at)
      (subst (λ b. R (link_at state.links v b) (link_at (set_link state.links v i link) v b)) (sym by)
      (subst (λ l. R (link_at state.links v i) l) (sym (link_here v i link vertex lt)) here)))
      (λ ne. other (λ _ by. ne by))
      (cases_eq j i))
      (λ ne. other (λ at _. ne at))
      (cases_eq u v)

  pub node_stays : (v u : ℕ) (node : Node S M) → IsVertex net v → IsVertex net u → (u ≡ v → ⊥)
      → get_or (set_node state.nodes v node) (u - 1) (start_node program net u) ≡ node_of program net state u
  node_stays v u node vertex vertex' ne =
      get_or-set_other state.nodes (v - 1) (u - 1) node (start_node program net u) (λ e. ne (omega (arith, e, vertex.0, vertex'.0)))

  pub node_is : (event : Event) (next : State S M) → Steps program net state event next → (u : ℕ) → IsVertex net u → (u ≡ vertex_of event → ⊥)
      → node_of program net next u ≡ node_of program net state u
  node_is (Pulse v) next step u vertex ne = ap (λ n. node_of program net n u) step.leads ∙ node_stays v u _ step.possible.0 vertex ne
  node_is (Put v i) next step u vertex ne = ap (λ n. node_of program net n u) step.leads ∙ node_stays v u _ step.possible.0.0 vertex ne
  node_is (Take v i) next step u vertex ne = ap (λ n. node_of program net n u) step.leads ∙ node_stays v u _ step.possible.0.0 vertex ne

  -- the pulse of the node that changes didn't fall, so none did
  pub pulses_up : (v : ℕ) (node : Node S M) → IsVertex net v → pulse_of program net state v ≤ node.view.pulse → (u : ℕ) → IsVertex net u
      → pulse_of program net state u ≤ (get_or (set_node state.nodes v node) (u - 1) (start_node program net u)).view.pulse
  pulses_up v node vertex up u vertex' = ⊎_elim
      (λ at.
      let here : get_or (set_node state.nodes v node) (v - 1) (start_node program net v) ≡ node =
      get_or-set_same state.nodes (v - 1) node (start_node program net v) (omega (arith, kept.nodes, vertex.0, vertex.1)) in
      subst (λ k. pulse_of program net state k ≤ (get_or (set_node state.nodes v node) (k - 1) (start_node program net k)).view.pulse) (sym at)
      (subst (λ (n : Node S M). pulse_of program net state v ≤ n.view.pulse) (sym here) up))
      (λ ne. subst (λ (n : Node S M). pulse_of program net state u ≤ n.view.pulse) (sym (node_stays v u node vertex vertex' ne)) (omega arith))
      (cases_eq u v)
