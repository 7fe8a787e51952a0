-- A list of events leads from the start to a state in which every node keeps its links.
use Rattle.std.proofs.Common.{◌≡◌, ℕ, zero, suc, ◌-◌, ◌<◌, List, [], ◌∷◌, map, Result, Ok, Err, length, get_or, replicate, refl, sym, ap, ◌∙◌, arith, subst}
use Rattle.std.specs.List.{range_with_len}
use Rattle.std.proofs.lemmas.List.{get_or-map, length-map, length-replicate}
use Rattle.std.proofs.lemmas.List.FromFn.{length-range_with_len, get_or-range_with_len}
use Rattle.interference.specs.Net.{Net, IsNetwork, IsVertex, count_of, degree_of, neighbour_of, back_port_of, vertices}
use Rattle.node_api.specs.Program.{Program}
use Rattle.alpha_core.specs.Program.{start_node}
use Rattle.alpha_laws.specs.Kept.{NodeKept}
use Rattle.alpha_laws.proofs.Runs.{Runs}
use Rattle.alpha_laws.proofs.NodePulses.{start_kept}
use Rattle.alpha_laws.proofs.Claims.{simulates}
use Rattle.event_rule.specs.declared.event.Event.{Event}
use Rattle.event_rule.specs.declared.refused.StepRefused.{StepRefused}
use Rattle.event_rule.specs.declared.refused.RunRefused.{RunRefused}
use Rattle.event_rule.specs.State.{State, sent_of, no_link, link_at, link_to, start}
use Rattle.event_rule.specs.Step.{step, go_on, run_from}
use Rattle.event_rule.specs.Simulation.{IsSimulation, IsReachable}
use Rattle.event_rule.proofs.NetKept.{NetKept, all_kept, node_same}
use Rattle.event_rule.proofs.KeptSteps.{Good, step_good}

-- what a run comes to
abbrev pub GoodRun : {S M E : Type 0} → Program S M E → Net → Result (State S M) RunRefused → Type 0
GoodRun program net (Ok state) = NetKept program net state
GoodRun program net (Err refused) = Unit {0}

module _ {S M E : Type 0} {program : Program S M E} {net : Net} (ok : IsNetwork net) (runs : Runs program net) where
  good_on : (k : ℕ) (r : Result (State S M) StepRefused) (f : State S M → Result (State S M) RunRefused) → Good program net r →
      ((state : State S M) → NetKept program net state → GoodRun program net (f state)) → GoodRun program net (go_on k r f)
  good_on k (Ok state) f kept more = more state kept
  good_on k (Err refused) f good more = tt

  pub run_good : (k : ℕ) (events : List Event) (state : State S M) → NetKept program net state → GoodRun program net (run_from program net k events state)
  run_good k [] state kept = kept
  run_good k (event ∷ events) state kept = good_on k (step program net state event) (λ next. run_from program net (suc k) events next)
      (step_good ok runs kept event) (λ next kept'. run_good (suc k) events next kept')

  -- the entry of a vertex in a list that is made over all vertices
  made_at : {A : Type 0} (f : ℕ → A) (v : ℕ) (d : A) → IsVertex net v → get_or (map f (vertices net)) (v - 1) d ≡ f v
  made_at f v d vertex =
      let below : v - 1 < count_of net = omega (arith, vertex.0, vertex.1) in
      let at : get_or (range_with_len 1 (count_of net)) (v - 1) 0 ≡ v = omega (arith, get_or-range_with_len 1 (count_of net) (v - 1) 0 below, vertex.0) in
      get_or-map f (range_with_len 1 (count_of net)) (v - 1) 0 d (omega (arith, length-range_with_len 1 (count_of net))) ∙ ap f at

  no_links : (u i : ℕ) → IsVertex net u → link_at (start program net).links u i ≡ no_link
  no_links u i vertex = ap (λ row. get_or row i no_link) (made_at (λ v. replicate (degree_of net v) no_link) u [] vertex) ∙ all_none (degree_of net u) i
    where
      all_none : (n i : ℕ) → get_or (replicate n (no_link {M = M})) i no_link ≡ no_link
      all_none zero i = refl
      all_none (suc n) zero = refl
      all_none (suc n) (suc i) = all_none n i

  pub start_good : NetKept program net (start program net)
  start_good = record {
    nodes = length-map (vertices net) _ ∙ length-range_with_len 1 (count_of net);
    rows = length-map (vertices net) _ ∙ length-range_with_len 1 (count_of net);
    row = λ v vertex. ap length (made_at (λ v. replicate (degree_of net v) no_link) v [] vertex) ∙ length-replicate (degree_of net v) no_link;
    each = λ v vertex.
        subst (λ n. NodeKept program net v n (λ i. sent_of (link_at (start program net).links v i)) (λ i. (link_to net (start program net).links v i).taken))
        (sym (made_at (λ v. start_node program net v) v (start_node program net v) vertex))
        (node_same program net (start_kept program net v runs vertex) _ _ (λ i. ap sent_of (sym (no_links v i vertex)))
        (λ i lt. ap (λ l. l.taken) (sym (no_links (neighbour_of net v i) (back_port_of net v i) (ok.vertices v i vertex lt)))));
  }

  -- the state of a reached run
  pub reached_kept : (state : State S M) → IsReachable program net state → NetKept program net state
  reached_kept state (events, is) =
      let P : Result (State S M) RunRefused → Type 0 = λ r. GoodRun program net r in
      subst P is (run_good 0 events (start program net) start_good)

  pub reached_simulates : (state : State S M) → IsReachable program net state → IsSimulation program net state
  reached_simulates state reached = simulates ok runs (all_kept ok (reached_kept state reached))
