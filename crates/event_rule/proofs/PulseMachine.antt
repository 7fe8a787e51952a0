-- The nodes of a run simulate the pulse machine. A state is where its pulses are, since they say all: the state of each
-- node is that of the synchronous run at its pulse, and neighbours are at most one apart. An event moves at most the
-- pulse of its own node, which wasn't ahead of a neighbour, since it is at most one ahead after the event.
use Rattle.std.proofs.Common.{◌≡◌, ⊎_elim, ℕ, suc, ◌-◌, ◌<◌, get_or, refl, sym, ap, ◌∙◌, arith, subst}
use Rattle.std.proofs.lemmas.Bool.{cases_eq}
use Rattle.std.proofs.lemmas.List.{get_or-map, get_or-set_same}
use Rattle.std.specs.List.{range_with_len}
use Rattle.std.proofs.lemmas.List.FromFn.{length-range_with_len, get_or-range_with_len}
use Rattle.interference.specs.Net.{Net, IsNetwork, IsVertex, count_of, neighbour_of}
use Rattle.node_api.specs.Program.{Program, last_pulse_on}
use Rattle.node_api.specs.Run.{inbox_at, state_at}
use Rattle.alpha_core.specs.Program.{start_node}
use Rattle.alpha_core.specs.Alpha.{put_done}
use Rattle.alpha_core.specs.View.{Node, inbox_of}
use Rattle.alpha_laws.proofs.Claims.{simulates}
use Rattle.alpha_laws.proofs.NodePulses.{can_below}
use Rattle.alpha_laws.proofs.PulseAfter.{pulsed_pulse, reaction_pulse, start_pulse}
use Rattle.alpha_laws.proofs.Runs.{Runs}
use Rattle.event_rule.specs.declared.event.Event.{Event}
use Rattle.event_rule.specs.declared.event.Event.TheVariants.{Pulse, Put, Take}
use Rattle.event_rule.specs.State.{State, node_of, set_node, start}
use Rattle.event_rule.specs.Simulation.{IsSimulation}
use Rattle.event_rule.specs.Events.{Steps}
use Rattle.event_rule.proofs.KeptRuns.{reached_kept, start_good}
use Rattle.event_rule.proofs.NetKept.{NetKept, all_kept}
use Rattle.event_rule.specs.PulseMachine.{IsAt, Matches, SimulatesPulseMachine}
use Rattle.event_rule.proofs.Changes.{node_is, pulse_of}
use Rattle.event_rule.proofs.Maximal.{next_kept}

module _ {S M E : Type 0} {program : Program S M E} {net : Net} (ok : IsNetwork net) (runs : Runs program net) where
  simulation : (state : State S M) → NetKept program net state → IsSimulation program net state
  simulation state kept = simulates ok runs (all_kept ok kept)

  -- the pulses say all
  is_at : (state : State S M) (pulses : ℕ → ℕ) → NetKept program net state → ((v : ℕ) → IsVertex net v → pulse_of program net state v ≡ pulses v)
      → IsAt program net state pulses
  is_at state pulses kept is = record {
    pulse_is = is;
    states = λ v vertex.
        subst (λ p. (node_of program net state v).state ≡ state_at program net p v) (is v vertex) (kept.each v vertex).state;
    apart = λ v i vertex lt.
        let near = (simulation state kept).one_pulse_apart v i vertex lt in
        omega (arith, near, is v vertex, is (neighbour_of net v i) (ok.vertices v i vertex lt));
  }

  module _ (state : State S M) (kept : NetKept program net state) where
    node_here : (v : ℕ) (node : Node S M) → IsVertex net v → get_or (set_node state.nodes v node) (v - 1) (start_node program net v) ≡ node
    node_here v node vertex = get_or-set_same state.nodes (v - 1) node (start_node program net v) (omega (arith, kept.nodes, vertex.0, vertex.1))

    still : (event : Event) (next : State S M) (v : ℕ) → Steps program net state event next
        → (u : ℕ) → IsVertex net u → (u ≡ v → pulse_of program net next u ≡ pulse_of program net state u)
        → ((u ≡ v → ⊥) → pulse_of program net next u ≡ pulse_of program net state u)
        → pulse_of program net next u ≡ pulse_of program net state u
    still event next v s u vertex here there = ⊎_elim here there (cases_eq u v)

    put_still : (v i : ℕ) (next : State S M) → Steps program net state (Put v i) next → (u : ℕ) → IsVertex net u
        → pulse_of program net next u ≡ pulse_of program net state u
    put_still v i next s u vertex = still (Put v i) next v s u vertex
        (λ at. subst (λ k. pulse_of program net next k ≡ pulse_of program net state k) (sym at)
        (ap (λ (n : State S M). pulse_of program net n v) s.leads
        ∙ ap (λ (n : Node S M). n.view.pulse) (node_here v record (node_of program net state v) { view = put_done (node_of program net state v).view i }
        s.possible.0.0)))
        (λ ne. ap (λ (n : Node S M). n.view.pulse) (node_is ok kept (Put v i) next s u vertex ne))

    take_still : (v i : ℕ) (next : State S M) → Steps program net state (Take v i) next → (u : ℕ) → IsVertex net u
        → pulse_of program net next u ≡ pulse_of program net state u
    take_still v i next s u vertex = still (Take v i) next v s u vertex
        (λ at. subst (λ k. pulse_of program net next k ≡ pulse_of program net state k) (sym at)
        (ap (λ (n : State S M). pulse_of program net n v) s.leads
        ∙ ap (λ (n : Node S M). n.view.pulse) (node_here v record (node_of program net state v) { view = s.view } s.possible.0.0)
        ∙ reaction_pulse (last_pulse_on program net) (node_of program net state v).view s.view i s.wire s.reacted))
        (λ ne. ap (λ (n : Node S M). n.view.pulse) (node_is ok kept (Take v i) next s u vertex ne))

    pulse_moves : (v : ℕ) (next : State S M) → (s : Steps program net state (Pulse v) next)
        → pulse_of program net next v ≡ suc (pulse_of program net state v)
    pulse_moves v next s =
        let node = node_of program net state v in
        ap (λ (n : State S M). pulse_of program net n v) s.leads ∙ ap (λ (n : Node S M). n.view.pulse) (node_here v s.node s.possible.0)
        ∙ pulsed_pulse (last_pulse_on program net) node s.node (program.next node.state (suc node.view.pulse) (inbox_of node.view)) s.pulsed

    others_still : (v : ℕ) (next : State S M) → Steps program net state (Pulse v) next → (u : ℕ) → IsVertex net u → (u ≡ v → ⊥)
        → pulse_of program net next u ≡ pulse_of program net state u
    others_still v next s u vertex ne = ap (λ (n : Node S M). n.view.pulse) (node_is ok kept (Pulse v) next s u vertex ne)

    matched : (next : State S M) (event : Event) (old : ℕ → ℕ) → Steps program net state event next → IsAt program net state old
        → (new : ℕ → ℕ) × Matches program net state event old new × IsAt program net next new
    matched next (Put v i) old s at =
        (old, refl, is_at next old (next_kept ok runs state next (Put v i) kept s) (λ u vertex. put_still v i next s u vertex ∙ at.pulse_is u vertex))
    matched next (Take v i) old s at =
        (old, refl, is_at next old (next_kept ok runs state next (Take v i) kept s) (λ u vertex. take_still v i next s u vertex ∙ at.pulse_is u vertex))
    matched next (Pulse v) old s at =
        let kept' = next_kept ok runs state next (Pulse v) kept s in
        let vertex = s.possible.0 in
        let new : ℕ → ℕ = λ u. pulse_of program net next u in
        let moved = pulse_moves v next s in (
          new,
          (
            record {
              vertex = vertex;
              below = omega (arith, (can_below (kept.each v vertex) s.possible.1).0, at.pulse_is v vertex);
              behind = λ i lt.
                  let w = neighbour_of net v i in
                  let vertex' = ok.vertices v i vertex lt in
                  let near = (simulation next kept').one_pulse_apart v i vertex lt in
                  ⊎_elim
                  (λ same. omega (arith, ap old same))
                  (λ ne. omega (arith, near, moved, others_still v next s w vertex' ne, at.pulse_is v vertex, at.pulse_is w vertex'))
                  (cases_eq w v);
              moved = moved ∙ ap suc (at.pulse_is v vertex);
              others = λ u vertex' ne. others_still v next s u vertex' ne ∙ at.pulse_is u vertex';
            },
            subst (λ p. inbox_of (node_of program net state v).view ≡ inbox_at program net (suc p) v) (at.pulse_is v vertex)
                ((simulation state kept).exact_next_inbox v vertex s.possible.1),
          ),
          is_at next new kept' (λ u vertex'. refl),
        )

  -- a node at the start
  started_at : (v : ℕ) → IsVertex net v → node_of program net (start program net) v ≡ start_node program net v
  started_at v vertex =
      let f : ℕ → Node S M = λ v. start_node program net v in
      let below : v - 1 < count_of net = omega (arith, vertex.0, vertex.1) in
      let at : get_or (range_with_len 1 (count_of net)) (v - 1) 0 ≡ v = omega (arith, get_or-range_with_len 1 (count_of net) (v - 1) 0 below, vertex.0) in
      get_or-map f (range_with_len 1 (count_of net)) (v - 1) 0 (start_node program net v) (omega (arith, length-range_with_len 1 (count_of net)))
      ∙ ap f at

  pub simulates_pulses : SimulatesPulseMachine program net
  simulates_pulses = record {
    starts = is_at (start program net) (λ v. 0) (start_good ok runs) (λ v vertex.
        ap (λ (n : Node S M). n.view.pulse) (started_at v vertex) ∙ start_pulse program net v);
    steps = λ state next event old reached s at. matched state (reached_kept ok runs state reached) next event old s at;
  }
