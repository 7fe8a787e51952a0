-- Each event leaves a state in which every node keeps its links.
use Rattle.std.proofs.Common.{◌≡◌, ℕ, ◌-◌, ◌<◌, Bool, true, false, List, [], ◌∷◌, ◌++◌, Result, Ok, Err, length, get_or, refl, sym, ap, ◌∙◌, append_assoc}
use Rattle.std.proofs.Common.{arith, subst}
use Rattle.std.specs.Prelude.{if◌then◌else◌}
use Rattle.interference.specs.Net.{Net, IsNetwork, IsVertex, degree_of, neighbour_of, back_port_of}
use Rattle.interference.proofs.Neighbours.{at-back_port, back-of-back_port}
use Rattle.node_api.specs.Program.{Program, last_pulse_on}
use Rattle.wires.specs.declared.wire.Wire.{Wire}
use Rattle.alpha_core.specs.View.{port_at, can_pulse}
use Rattle.alpha_core.specs.Alpha.{unless_refused, reacts, reaction}
use Rattle.alpha_core.proofs.Due.{due-taken}
use Rattle.alpha_laws.proofs.Runs.{Runs}
use Rattle.alpha_laws.proofs.NodeTakes.{puts_kept, takes_node}
use Rattle.alpha_laws.proofs.NodePulses.{pulse_node}
use Rattle.alpha_laws.proofs.Across.{due_at, allowed_at}
use Rattle.alpha_laws.proofs.Next.{next_pulse}
use Rattle.event_rule.specs.declared.event.Event.{Event}
use Rattle.event_rule.specs.declared.event.Event.TheVariants.{Pulse, Put, Take}
use Rattle.event_rule.specs.declared.refused.StepRefused.{StepRefused}
use Rattle.event_rule.specs.State.{Link, State, sent_of, node_of, link_at, link_to, set_node, set_link, set_link_to}
use Rattle.event_rule.specs.Step.{is_vertex, has_port, else_old, after_put, after_take, step}
use Rattle.event_rule.proofs.LinkTable.{link_same, link_other, link_field, rows_kept, row_kept}
use Rattle.event_rule.proofs.NetKept.{NetKept, all_kept, node_changes, vertex_from, port_from}

abbrev pub Good : {S M E : Type 0} → Program S M E → Net → Result (State S M) StepRefused → Type 0
Good program net (Ok state) = NetKept program net state
Good program net (Err refused) = Unit {0}

module _ {S M E : Type 0} (program : Program S M E) (net : Net) where
  good_if : (b : Bool) (x y : Result (State S M) StepRefused) → (b ≡ true → Good program net x) → (b ≡ false → Good program net y)
      → Good program net (if b then x else y)
  good_if true x y f g = f refl
  good_if false x y f g = g refl

module _ {S M E : Type 0} {program : Program S M E} {net : Net} (ok : IsNetwork net) (runs : Runs program net) {state : State S M}
    (kept : NetKept program net state) where
  step_pulse : (v : ℕ) → Good program net (step program net state (Pulse v))
  step_pulse v = good_if program net (is_vertex net v) _ _
      (λ inside.
      let vertex = vertex_from net v inside in
      let node = node_of program net state v in
      good_if program net (can_pulse (last_pulse_on program net) node.view) _ _
      (λ can.
      subst (λ r. NetKept program net record { nodes = set_node state.nodes v (else_old node r); links = state.links })
      (sym (next_pulse ok runs (all_kept ok kept) v vertex can))
      (node_changes ok kept v _ state.links vertex refl (λ a. refl) (pulse_node (kept.each v vertex) runs vertex can) (λ u vertex' ne i. refl)
      (λ u vertex' ne i lt. refl)))
      (λ cannot. tt))
      (λ outside. tt)

  in_rows : (v : ℕ) → IsVertex net v → v - 1 < length state.links
  in_rows v vertex = omega (arith, kept.rows, vertex.0, vertex.1)

  in_row : (v i : ℕ) → IsVertex net v → i < degree_of net v → i < length (get_or state.links (v - 1) [])
  in_row v i vertex lt = omega (arith, kept.row v vertex, lt)

  good_put : (v i : ℕ) → IsVertex net v → i < degree_of net v → (l : List (Wire M)) → (port_at (node_of program net state v).view i).out ≡ l →
      Good program net (after_put state v i (node_of program net state v) l)
  good_put v i vertex lt [] e = tt
  good_put v i vertex lt (w ∷ ws) e =
      let rows = in_rows v vertex in
      let row = in_row v i vertex lt in
      let old = link_at state.links v i in
      let new : Link M = record { taken = old.taken; held = old.held ++ (w ∷ []) } in
      let links = set_link state.links v i new in
      node_changes ok kept v _ links vertex (rows_kept state.links v i new vertex.0 rows row) (row_kept state.links v i new vertex.0 rows row)
      (puts_kept (kept.each v vertex) i w ws _ _ lt e
      (λ j ne. ap sent_of (sym (link_other state.links v i new vertex.0 rows row v j vertex.0 (λ a b. ne b))))
      (ap sent_of (link_same state.links v i new vertex.0 rows row) ∙ sym (append_assoc old.taken old.held (w ∷ [])))
      (λ j. sym (link_field state.links v i new vertex.0 rows row (λ l. l.taken) refl (neighbour_of net v j) (back_port_of net v j))))
      (λ u vertex' ne j. ap sent_of (sym (link_other state.links v i new vertex.0 rows row u j vertex'.0 (λ a b. ne a))))
      (λ u vertex' ne j lt'. sym (link_field state.links v i new vertex.0 rows row (λ l. l.taken) refl (neighbour_of net u j) (back_port_of net u j)))

  -- another port of a vertex comes by another link
  apart : (v i u k : ℕ) → IsVertex net v → i < degree_of net v → IsVertex net u → k < degree_of net u → (u ≡ v → k ≡ i → ⊥) →
      neighbour_of net u k ≡ neighbour_of net v i → back_port_of net u k ≡ back_port_of net v i → ⊥
  apart v i u k vertex lt vertex' lt' ne a b =
      let same : u ≡ v = sym (at-back_port net ok u k vertex' lt') ∙ ap (λ x. neighbour_of net x (back_port_of net u k)) a ∙
      ap (λ x. neighbour_of net (neighbour_of net v i) x) b ∙ at-back_port net ok v i vertex lt in
      ne same (sym (back-of-back_port net ok u k vertex' lt') ∙ ap (λ x. back_port_of net x (back_port_of net u k)) a ∙
      ap (λ x. back_port_of net (neighbour_of net v i) x) b ∙ back-of-back_port net ok v i vertex lt)

  good_take : (v i : ℕ) → IsVertex net v → i < degree_of net v → (l : List (Wire M)) → (link_to net state.links v i).held ≡ l
      → Good program net (after_take (last_pulse_on program net) net state v i (node_of program net state v) l)
  good_take v i vertex lt [] h = tt
  good_take v i vertex lt (w ∷ ws) h =
      let last = last_pulse_on program net in
      let node = node_of program net state v in
      let from = neighbour_of net v i in
      let back = back_port_of net v i in
      let other = node_of program net state from in
      let old = link_to net state.links v i in
      let next : old.held ++ (port_at other.view back).out ≡ w ∷ (ws ++ (port_at other.view back).out) = ap (λ l. l ++ (port_at other.view back).out) h in
      let due = due_at ok (all_kept ok kept) v i vertex lt w _ next in
      let allowed = allowed_at ok (all_kept ok kept) v i vertex lt w _ next in
      let vertex' = ok.vertices v i vertex lt in
      let rows = in_rows from vertex' in
      let row = in_row from back vertex' (ok.symmetric v i vertex lt) in
      let new : Link M = record { taken = old.taken ++ (w ∷ []); held = ws } in
      let links = set_link_to net state.links v i new in
      let sums : sent_of new ≡ sent_of old = append_assoc old.taken (w ∷ []) ws ∙ ap (λ l. old.taken ++ l) (sym h) in
      let is : reaction last node.view i w ≡ Ok (reacts last node.view i w) =
      ap (λ r. unless_refused r (reacts last node.view i w)) (due-taken last node.view.pulse node.view.said (port_at node.view i) w due) in
      subst (λ r. NetKept program net record { nodes = set_node state.nodes v record { state = node.state; view = else_old node.view r }; links = links })
      (sym is)
      (node_changes ok kept v _ links vertex (rows_kept state.links from back new vertex'.0 rows row) (row_kept state.links from back new vertex'.0 rows row)
      (takes_node (kept.each v vertex) i w _ _ lt due allowed
      (λ j. sym (link_field state.links from back new vertex'.0 rows row sent_of sums v j))
      (λ j lj ne. ap (λ l. l.taken) (sym (link_other state.links from back new vertex'.0 rows row (neighbour_of net v j) (back_port_of net v j)
      (ok.vertices v j vertex lj).0 (apart v i v j vertex lt vertex lj (λ a b. ne b)))))
      (ap (λ l. l.taken) (link_same state.links from back new vertex'.0 rows row)))
      (λ u vertex'' ne j. sym (link_field state.links from back new vertex'.0 rows row sent_of sums u j))
      (λ u vertex'' ne j lj. ap (λ l. l.taken) (sym (link_other state.links from back new vertex'.0 rows row (neighbour_of net u j) (back_port_of net u j)
      (ok.vertices u j vertex'' lj).0 (apart v i u j vertex lt vertex'' lj (λ a b. ne a))))))

  pub step_good : (event : Event) → Good program net (step program net state event)
  step_good (Pulse v) = step_pulse v
  step_good (Put v i) = good_if program net (has_port net v i) _ _
      (λ inside. let there = port_from net v i inside in good_put v i there.0 there.1 _ refl)
      (λ outside. tt)
  step_good (Take v i) = good_if program net (has_port net v i) _ _
      (λ inside. let there = port_from net v i inside in good_take v i there.0 there.1 _ refl)
      (λ outside. tt)
