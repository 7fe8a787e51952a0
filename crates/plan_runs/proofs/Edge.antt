-- The network of the small run keeps what every network keeps, and is whole if it is at both vertices.
use Rattle.std.proofs.Common.{◌≡◌, ◌≢◌, ℕ, zero, suc, ◌<◌, ◌≤◌, true, Result, Ok, Err, [], refl, arith}
use Rattle.std.specs.Prelude.{IfOk, slice_index}
use Rattle.interference.specs.Net.{IsBarred, IsNetwork, IsVertex, id_of, id_bound, bar_count_of, bars_of, degree_of, neighbour_of, back_port_of}
use Rattle.graph_limits.specs.declared.limits.TheConstants.{MAX_BARS, MAX_CHANNEL}
use Rattle.interference.specs.declared.limits.TheConstants.{MAX_DEGREE}
use Rattle.node_api.specs.Program.{Program, last_pulse_on}
use Rattle.alpha_core.specs.View.{is_drained}
use Rattle.event_rule.specs.State.{State, node_of, link_at}
use Rattle.event_rule.specs.Endings.{IsWholeState}
use Rattle.plan_runs.specs.Small.{edge}

-- what holds at the two vertices holds at every vertex, and what holds at port 0 at every port
at_both : (P : ℕ → Type 0) → P 1 → P 2 → (v : ℕ) → 1 ≤ v → v ≤ 2 → P v
at_both P a b zero low high = absurd (omega arith)
at_both P a b (suc zero) low high = a
at_both P a b (suc (suc zero)) low high = b
at_both P a b (suc (suc (suc v))) low high = absurd (omega arith)

at_first : (P : ℕ → Type 0) → P 0 → (port : ℕ) → port < 1 → P port
at_first P a zero lt = a
at_first P a (suc port) lt = absurd (omega arith)

pub edge_is_network : IsNetwork edge
edge_is_network = record {
  sizes = refl;
  count = omega arith;
  identifiers = λ v vertex. at_both (λ v. id_of edge v < id_bound) (omega arith) (omega arith) v vertex.0 vertex.1;
  distinct = λ v w vertex vertex'. at_both (λ v. id_of edge v ≡ id_of edge w → v ≡ w)
      (at_both (λ w. id_of edge 1 ≡ id_of edge w → 1 ≡ w) (λ e. refl) (λ e. absurd (omega arith)) w vertex'.0 vertex'.1)
      (at_both (λ w. id_of edge 2 ≡ id_of edge w → 2 ≡ w) (λ e. absurd (omega arith)) (λ e. refl) w vertex'.0 vertex'.1)
      v vertex.0 vertex.1;
  degrees = λ v vertex. at_both (λ v. degree_of edge v ≤ MAX_DEGREE) (omega arith) (omega arith) v vertex.0 vertex.1;
  vertices = λ v port vertex lt. at_both (λ v. port < degree_of edge v → IsVertex edge (neighbour_of edge v port))
      (at_first (λ port. IsVertex edge (neighbour_of edge 1 port)) (omega arith, omega arith) port)
      (at_first (λ port. IsVertex edge (neighbour_of edge 2 port)) (omega arith, omega arith) port)
      v vertex.0 vertex.1 lt;
  ascending = λ v i j vertex less lt. at_both (λ v. j < degree_of edge v → neighbour_of edge v i < neighbour_of edge v j)
      (λ lt. absurd (let l : j < 1 = lt in omega arith)) (λ lt. absurd (let l : j < 1 = lt in omega arith)) v vertex.0 vertex.1 lt;
  other = λ v port vertex lt. at_both (λ v. port < degree_of edge v → neighbour_of edge v port ≢ v)
      (at_first (λ port. neighbour_of edge 1 port ≢ 1) (λ e. omega arith) port)
      (at_first (λ port. neighbour_of edge 2 port ≢ 2) (λ e. omega arith) port)
      v vertex.0 vertex.1 lt;
  symmetric = λ v port vertex lt. at_both (λ v. port < degree_of edge v → back_port_of edge v port < degree_of edge (neighbour_of edge v port))
      (at_first (λ port. back_port_of edge 1 port < degree_of edge (neighbour_of edge 1 port)) (omega arith) port)
      (at_first (λ port. back_port_of edge 2 port < degree_of edge (neighbour_of edge 2 port)) (omega arith) port)
      v vertex.0 vertex.1 lt;
  bar_lists = refl;
  few_bars = λ v vertex. at_both (λ v. bar_count_of edge v ≤ MAX_BARS) (omega arith) (omega arith) v vertex.0 vertex.1;
  barred_colours = λ v colour vertex. at_both (λ v. IsBarred edge v colour → colour < MAX_CHANNEL)
      (λ barred. absurd (let l : barred.0 < 0 = barred.1 in omega arith)) (λ barred. absurd (let l : barred.0 < 0 = barred.1 in omega arith))
      v vertex.0 vertex.1;
  ascending_bars = λ v i j vertex less lt. at_both (λ v. j < bar_count_of edge v → slice_index (bars_of edge v) i < slice_index (bars_of edge v) j)
      (λ lt. absurd (let l : j < 0 = lt in omega arith)) (λ lt. absurd (let l : j < 0 = lt in omega arith)) v vertex.0 vertex.1 lt;
}

-- both nodes are drained, and neither link holds a wire
abbrev pub BothDone : {S M E : Type 0} → Program S M E → State S M → Type 0
BothDone program state =
    (is_drained (last_pulse_on program edge) (node_of program edge state 1).view ≡ true)
    × (is_drained (last_pulse_on program edge) (node_of program edge state 2).view ≡ true)
    × ((link_at state.links 1 0).held ≡ []) × ((link_at state.links 2 0).held ≡ [])

pub whole_if : {S M E X : Type 0} (program : Program S M E) (r : Result (State S M) X) → IfOk r (λ state. BothDone program state)
    → IfOk r (λ state. IsWholeState program edge state)
whole_if program (Ok state) (a, b, c, d) = record {
  drained = λ v vertex. at_both (λ v. is_drained (last_pulse_on program edge) (node_of program edge state v).view ≡ true) a b v vertex.0 vertex.1;
  empty = λ v i vertex. at_both (λ v. i < degree_of edge v → (link_at state.links v i).held ≡ [])
      (at_first (λ i. (link_at state.links 1 i).held ≡ []) c i) (at_first (λ i. (link_at state.links 2 i).held ≡ []) d i) v vertex.0 vertex.1;
}
whole_if program (Err refused) done = done
