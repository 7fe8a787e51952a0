-- The lists that a NetState keeps, against its state: what is read off them, and what each event makes of them.
use Rattle.std.proofs.Common.{◌≡◌, ℕ, ◌-◌, ◌<◌, true, false, List, [], ◌∷◌, ◌++◌, length, get_or, set, Result, Ok, Err, sym, ap, ◌∙◌, arith, subst}
use Rattle.std.specs.Prelude.{IsOk, if◌then◌else◌}
use Rattle.std.proofs.lemmas.List.{length-map, get_or-map, map-set}
use Rattle.interference.specs.Net.{Net, IsVertex, degree_of, neighbour_of, back_port_of}
use Rattle.node_api.specs.Program.{Program, last_pulse_on}
use Rattle.node_api.specs.Laws.{IsProgram}
use Rattle.wires.specs.declared.wire.Wire.{Wire}
use Rattle.alpha_core.specs.declared.refused.AlphaRefused.{AlphaRefused}
use Rattle.alpha_core.specs.View.{Alpha, Node, port_at, can_pulse, can_take}
use Rattle.alpha_core.specs.Alpha.{pulse, reaction, put_done}
use Rattle.alpha_core.specs.Program.{start_node}
use Rattle.alpha_laws.proofs.Runs.{runs}
use Rattle.event_rule.specs.declared.event.Event.{Event}
use Rattle.event_rule.specs.declared.event.Event.TheVariants.{Pulse, Put, Take}
use Rattle.event_rule.specs.declared.refused.StepRefused.{StepRefused}
use Rattle.event_rule.specs.declared.refused.StepRefused.TheVariants.{NotReady, NothingToPut, LinkEmpty, NoSuch}
use Rattle.event_rule.specs.State.{Link, State, HasLink, node_of, link_at, link_to, set_node, set_link, set_link_to, state_in, take_one}
use Rattle.event_rule.specs.Events.{Possible}
use Rattle.event_rule.specs.Step.{else_old, after_put, after_take, step}
use Rattle.event_rule.specs.Simulation.{IsSimulation, IsNetState}
use Rattle.event_rule.proofs.Parts.{set-same, each-set}
use Rattle.event_rule.proofs.NetKept.{NetKept, vertex_is, port_is}
use Rattle.event_rule.proofs.KeptRuns.{reached_kept, reached_simulates}
use Rattle.event_rule.proofs.Reached.{reached_step}

not_ok : {A B E : Type 0} (r : Result A E) (e : E) → IsOk r → r ≡ Err e → B
not_ok (Ok x) e ok is = absurd cc
not_ok (Err x) e ok is = absurd cc

module _ {S M E : Type 0} (program : Program S M E) (laws : IsProgram program) (net : Net)
    (nodes : List (Alpha S M)) (links : List (List (Link M))) (keeps : IsNetState program net nodes links) where
  kept : NetKept program net (state_in nodes links)
  kept = reached_kept keeps.network (runs program laws net keeps.network) (state_in nodes links) keeps.reached

  pub simulation : IsSimulation program net (state_in nodes links)
  simulation = reached_simulates keeps.network (runs program laws net keeps.network) (state_in nodes links) keeps.reached

  pub in_nodes : (v : ℕ) → IsVertex net v → v - 1 < length nodes
  in_nodes v vertex = omega (arith, kept.nodes, length-map nodes (λ n. n.node), vertex.0, vertex.1)

  pub has_link : (v i : ℕ) → IsVertex net v → i < degree_of net v → HasLink links v i
  has_link v i vertex lt = (vertex.0, omega (arith, kept.rows, vertex.0, vertex.1), omega (arith, kept.row v vertex, lt))

  pub has_link_to : (v i : ℕ) → IsVertex net v → i < degree_of net v → HasLink links (neighbour_of net v i) (back_port_of net v i)
  has_link_to v i vertex lt =
      has_link (neighbour_of net v i) (back_port_of net v i) (keeps.network.vertices v i vertex lt) (keeps.network.symmetric v i vertex lt)

  pub take_nothing : (v : ℕ) → IsVertex net v → (i : ℕ) → i < degree_of net v → (link_to net links v i).held ≡ []
      → step program net (state_in nodes links) (Take v i) ≡ Err LinkEmpty
  take_nothing v vertex i lt is =
      let st = state_in nodes links in
      let last = last_pulse_on program net in
      ap (λ b. if b then after_take last net st v i (node_of program net st v) (link_to net links v i).held else Err NoSuch) (port_is net v i vertex lt)
      ∙ ap (λ l. after_take last net st v i (node_of program net st v) l) is

  -- one node, x, in its place
  module _ (v : ℕ) (vertex : IsVertex net v) (x : Alpha S M) (x_is : x ≡ get_or nodes (v - 1) x) where
    pub node_is : x.node ≡ node_of program net (state_in nodes links) v
    node_is = ap (λ n. n.node) x_is ∙ sym (get_or-map (λ n. n.node) nodes (v - 1) x (start_node program net v) (in_nodes v vertex))

    pub last_is : x.last ≡ last_pulse_on program net
    last_is = subst (λ n. n.last ≡ last_pulse_on program net) (sym x_is) (keeps.lasts (v - 1) x (in_nodes v vertex))

    pub unchanged : set nodes (v - 1) x ≡ nodes
    unchanged = set-same nodes (v - 1) x (in_nodes v vertex) x_is

    pub kept_same : (y : Alpha S M) → y ≡ x → (links' : List (List (Link M))) → links' ≡ links → IsNetState program net (set nodes (v - 1) y) links'
    kept_same y same links' same' =
        subst (λ l. IsNetState program net (set nodes (v - 1) y) l) (sym same')
        (subst (λ (ns : List (Alpha S M)). IsNetState program net ns links) (sym (ap (λ z. set nodes (v - 1) z) same ∙ unchanged)) keeps)

    -- a step that changes this node and the links
    becomes : (event : Event) (y : Alpha S M) (links' : List (List (Link M)))
        → step program net (state_in nodes links) event ≡ Ok record { nodes = set_node (state_in nodes links).nodes v y.node; links = links' } → y.last ≡ x.last
        → (step program net (state_in nodes links) event ≡ Ok (state_in (set nodes (v - 1) y) links')) × IsNetState program net (set nodes (v - 1) y) links'
    becomes event y links' is same =
        let made : step program net (state_in nodes links) event ≡ Ok (state_in (set nodes (v - 1) y) links') =
        is ∙ ap (λ (ns : List (Node S M)). Ok record { nodes = ns; links = links' }) (sym (map-set (λ n. n.node) nodes (v - 1) y)) in (
          made,
          record {
            network = keeps.network;
            reached = reached_step program net (state_in nodes links) (state_in (set nodes (v - 1) y) links') event keeps.reached made;
            lasts = each-set (λ n. n.last ≡ last_pulse_on program net) nodes (v - 1) y (same ∙ last_is) keeps.lasts;
          },
        )

    pulse_by : step program net (state_in nodes links) (Pulse v)
        ≡ (if can_pulse x.last x.node.view then Ok record {
          nodes = set_node (state_in nodes links).nodes v (else_old x.node (pulse program.next x.last x.node));
          links = links;
        } else Err NotReady)
    pulse_by =
        let st = state_in nodes links in
        let l = last_pulse_on program net in
        let made : ℕ → Node S M → Result (State S M) StepRefused =
        λ k n. if can_pulse k n.view then Ok record { nodes = set_node st.nodes v (else_old n (pulse program.next k n)); links = links } else Err NotReady in
        ap (λ b. if b then made l (node_of program net st v) else Err NoSuch) (vertex_is net v vertex)
        ∙ ap (made l) (sym node_is) ∙ ap (λ k. made k x.node) (sym last_is)

    pub pulse_not_ready : can_pulse x.last x.node.view ≡ false → step program net (state_in nodes links) (Pulse v) ≡ Err NotReady
    pulse_not_ready cannot = pulse_by ∙ ap (λ b. if b then Ok record {
      nodes = set_node (state_in nodes links).nodes v (else_old x.node (pulse program.next x.last x.node));
      links = links;
    } else Err NotReady) cannot

    pub pulse_made : can_pulse x.last x.node.view ≡ true → (y : Alpha S M) → pulse program.next x.last x.node ≡ Ok y.node → y.last ≡ x.last
        → (step program net (state_in nodes links) (Pulse v) ≡ Ok (state_in (set nodes (v - 1) y) links)) × IsNetState program net (set nodes (v - 1) y) links
    pulse_made can y is same = becomes (Pulse v) y links
        (pulse_by ∙ ap (λ b. if b then Ok record {
          nodes = set_node (state_in nodes links).nodes v (else_old x.node (pulse program.next x.last x.node));
          links = links;
        } else Err NotReady) can
        ∙ ap (λ r. Ok record { nodes = set_node (state_in nodes links).nodes v (else_old x.node r); links = links }) is) same

    pub pulse_refused : {B : Type 0} → can_pulse x.last x.node.view ≡ true → (e : E) → pulse program.next x.last x.node ≡ Err e → B
    pulse_refused can e is =
        let accepts : IsOk (pulse program.next x.last x.node) =
        subst (λ k. IsOk (pulse program.next k x.node)) (sym last_is)
        (subst (λ n. IsOk (pulse program.next (last_pulse_on program net) n)) (sym node_is)
        (simulation.no_pulse_refused v vertex (ap (λ n. can_pulse (last_pulse_on program net) n.view) (sym node_is) ∙
        ap (λ k. can_pulse k x.node.view) (sym last_is) ∙ can))) in
        not_ok (pulse program.next x.last x.node) e accepts is

    pub room : can_take x.node.view ≡ true
    room = ap (λ n. can_take n.view) node_is ∙ simulation.always_can_take v vertex

    module _ (i : ℕ) (lt : i < degree_of net v) where
      pub in_ports : i < length x.node.view.ports
      in_ports = omega (arith, ap (λ n. length n.view.ports) node_is, (simulation.fits v vertex).count, lt)

      put_by : (l : List (Wire M)) → (port_at x.node.view i).out ≡ l →
          step program net (state_in nodes links) (Put v i) ≡ after_put (state_in nodes links) v i x.node l
      put_by l is =
          let st = state_in nodes links in
          ap (λ b. if b then after_put st v i (node_of program net st v) (port_at (node_of program net st v).view i).out else Err NoSuch)
          (port_is net v i vertex lt)
          ∙ ap (λ n. after_put st v i n (port_at n.view i).out) (sym node_is) ∙ ap (λ w. after_put st v i x.node w) is

      pub put_nothing : (port_at x.node.view i).out ≡ [] → step program net (state_in nodes links) (Put v i) ≡ Err NothingToPut
      put_nothing is = put_by [] is

      pub put_possible : (w : Wire M) (rest : List (Wire M)) → (port_at x.node.view i).out ≡ w ∷ rest → Possible program net (state_in nodes links) (Put v i)
      put_possible w rest is =
          let some : 0 < length (port_at x.node.view i).out = omega (arith, ap length is) in
          ((vertex, lt), subst (λ n. 0 < length (port_at n.view i).out) node_is some)

      pub put_made : (w : Wire M) (rest : List (Wire M)) → (port_at x.node.view i).out ≡ w ∷ rest
          → (y : Alpha S M) → y.node.view ≡ put_done x.node.view i → y.node.state ≡ x.node.state → y.last ≡ x.last
          → (links' : List (List (Link M))) → links' ≡ set_link links v i record {
            taken = (link_at links v i).taken;
            held =
                (link_at links v i).held ++ (w ∷ []);
          }
          → (step program net (state_in nodes links) (Put v i) ≡ Ok (state_in (set nodes (v - 1) y) links')) ×
          IsNetState program net (set nodes (v - 1) y) links'
      put_made w rest is y view state last links' put = becomes (Put v i) y links'
          (put_by (w ∷ rest) is
          ∙ ap (λ p. Ok record {
            nodes = set_node (state_in nodes links).nodes v record { state = x.node.state; view = p };
            links =
                set_link links v i record { taken = (link_at links v i).taken; held = (link_at links v i).held ++ (w ∷ []) };
          }) (sym view)
          ∙ ap (λ s. Ok record {
            nodes = set_node (state_in nodes links).nodes v record { state = s; view = y.node.view };
            links =
                set_link links v i record { taken = (link_at links v i).taken; held = (link_at links v i).held ++ (w ∷ []) };
          }) (sym state)
          ∙ ap (λ l. Ok record { nodes = set_node (state_in nodes links).nodes v y.node; links = l }) (sym put)) last

      take_by : (l : List (Wire M)) → (link_to net links v i).held ≡ l
          → step program net (state_in nodes links) (Take v i) ≡ after_take x.last net (state_in nodes links) v i x.node l
      take_by l is =
          let st = state_in nodes links in
          let last = last_pulse_on program net in
          ap (λ b. if b then after_take last net st v i (node_of program net st v) (link_to net links v i).held else Err NoSuch) (port_is net v i vertex lt)
          ∙ ap (λ n. after_take last net st v i n (link_to net links v i).held) (sym node_is)
          ∙ ap (λ k. after_take k net st v i x.node (link_to net links v i).held) (sym last_is) ∙ ap (λ w. after_take x.last net st v i x.node w) is

      pub take_made : (w : Wire M) (rest : List (Wire M)) → (link_to net links v i).held ≡ w ∷ rest
          → (y : Alpha S M) → reaction x.last x.node.view i w ≡ Ok y.node.view → y.node.state ≡ x.node.state → y.last ≡ x.last
          → (links' : List (List (Link M))) → links' ≡ set_link links (neighbour_of net v i) (back_port_of net v i) (take_one (link_to net links v i))
          → (step program net (state_in nodes links) (Take v i) ≡ Ok (state_in (set nodes (v - 1) y) links')) ×
          IsNetState program net (set nodes (v - 1) y) links'
      take_made w rest is y reacts state last links' took =
          let new : Link M = record { taken = (link_to net links v i).taken ++ (w ∷ []); held = rest } in
          let same : take_one (link_to net links v i) ≡ new = ap (λ h. take_one record { taken = (link_to net links v i).taken; held = h }) is in
          becomes (Take v i) y links'
          (take_by (w ∷ rest) is
          ∙ ap (λ r. Ok record {
            nodes = set_node (state_in nodes links).nodes v record { state = x.node.state; view = else_old x.node.view r };
            links =
                set_link_to net links v i new;
          }) reacts
          ∙ ap (λ s. Ok record {
            nodes = set_node (state_in nodes links).nodes v record { state = s; view = y.node.view };
            links =
                set_link_to net links v i new;
          }) (sym state)
          ∙ ap (λ l. Ok record { nodes = set_node (state_in nodes links).nodes v y.node; links = l })
          (sym (took ∙ ap (λ l. set_link_to net links v i l) same))) last

      pub take_refused : {B : Type 0} (w : Wire M) (rest : List (Wire M)) → (link_to net links v i).held ≡ w ∷ rest → (e : AlphaRefused) →
          reaction x.last x.node.view i w ≡ Err e → B
      take_refused w rest is e refuses =
          let accepts : IsOk (reaction x.last x.node.view i w) =
          subst (λ k. IsOk (reaction k x.node.view i w)) (sym last_is)
          (subst (λ n. IsOk (reaction (last_pulse_on program net) n.view i w)) (sym node_is)
          (simulation.no_wire_refused v i vertex lt w rest (ap (λ l. (link_to net links v i).taken ++ l) is))) in
          not_ok (reaction x.last x.node.view i w) e accepts refuses
