-- What identifiers and a set of edges make is a network, unless a vertex is crowded or two have one identifier.
use Rattle.std.proofs.Common.{◌≡◌, inl, inr, ℕ, ◌-◌, ◌<◌, ◌≤◌, true, List, [], length, refl, ap, sym, ◌∙◌, arith, subst}
use Rattle.std.specs.List.{All, Contains}
use Rattle.std.proofs.lemmas.Bool.{cases_order}
use Rattle.std.proofs.lemmas.List.FromFn.{length-map-range_with_len, get_or-map-range_with_len}
use Rattle.std.proofs.lemmas.List.Elements.{Contains-get_or}
use Rattle.std.proofs.lemmas.Map.Keys.{below_from_sorted}
use Rattle.graph_limits.specs.Pairs.{IsWithinLimits}
use Rattle.interference.specs.Net.{IsNetwork, IsVertex, id_of, neighbours, degree_of, neighbour_of, back_port_of, bars_of, id_bound}
use Rattle.interference.specs.declared.limits.TheConstants.{MAX_DEGREE}
use Rattle.interference.specs.Making.{BarsFit, barred_at, joins, joined_to, network_of, IsCrowded, HaveSameId}
use Rattle.interference.proofs.Members.{place_of-below}
use Rattle.interference.proofs.BarLists.{length-barred_at, barred_at-small, barred_at-ascends}
use Rattle.interference.proofs.Joined.{joins-swap, joins-other, Contains-joined_to, joins-from_joined_to, bounds-from_joined_to, joined_to-ascends}

module _ (ids : List ℕ) (edges bars : List (ℕ × ℕ)) where
  pub ids-network_of : (network_of ids edges bars).ids ≡ ids
  unfolding network_of
  ids-network_of = refl

  pub length-network_of : length (network_of ids edges bars).ports ≡ length ids
  unfolding network_of
  length-network_of = length-map-range_with_len (joined_to (length ids) edges) 1 (length ids)

  pub neighbours-network_of : (v : ℕ) → 1 ≤ v → v ≤ length ids → neighbours (network_of ids edges bars) v ≡ joined_to (length ids) edges v
  unfolding network_of
  neighbours-network_of v low high = get_or-map-range_with_len (joined_to (length ids) edges) 1 (length ids) (v - 1) v [] (omega arith) (omega arith)

  pub is_vertex : (v : ℕ) → IsVertex (network_of ids edges bars) v → (1 ≤ v) × (v ≤ length ids)
  unfolding network_of
  is_vertex v h = h

  pub length-bars : length (network_of ids edges bars).bars ≡ length ids
  unfolding network_of
  length-bars = length-map-range_with_len (barred_at bars) 1 (length ids)

  pub bars_are : (v : ℕ) → IsVertex (network_of ids edges bars) v → bars_of (network_of ids edges bars) v ≡ barred_at bars v
  unfolding network_of
  bars_are v vertex = get_or-map-range_with_len (barred_at bars) 1 (length ids) (v - 1) v [] (omega (arith, vertex)) (omega (arith, vertex))

  module _ (v : ℕ) (vertex : IsVertex (network_of ids edges bars) v) where
    pub row_is : neighbours (network_of ids edges bars) v ≡ joined_to (length ids) edges v
    row_is = neighbours-network_of v (is_vertex v vertex).0 (is_vertex v vertex).1

    neighbour-joined : (port : ℕ) → port < degree_of (network_of ids edges bars) v →
        Contains (joined_to (length ids) edges v) (neighbour_of (network_of ids edges bars) v port)
    neighbour-joined port below = subst (λ (row : List ℕ). Contains row (neighbour_of (network_of ids edges bars) v port)) row_is
        (Contains-get_or (neighbours (network_of ids edges bars) v) port 0 below)

    neighbour-vertex : (port : ℕ) → port < degree_of (network_of ids edges bars) v →
        IsVertex (network_of ids edges bars) (neighbour_of (network_of ids edges bars) v port)
    unfolding network_of
    neighbour-vertex port below = bounds-from_joined_to (length ids) edges v _ (neighbour-joined port below)

    neighbour-ascends : (i j : ℕ) → i < j → j < degree_of (network_of ids edges bars) v →
        neighbour_of (network_of ids edges bars) v i < neighbour_of (network_of ids edges bars) v j
    neighbour-ascends i j less below =
        below_from_sorted (neighbours (network_of ids edges bars) v) i j 0 (rw row_is (joined_to-ascends (length ids) edges v)) less below

    back-port : (port : ℕ) → port < degree_of (network_of ids edges bars) v →
        back_port_of (network_of ids edges bars) v port < degree_of (network_of ids edges bars) (neighbour_of (network_of ids edges bars) v port)
    back-port port below =
        let w : ℕ = neighbour_of (network_of ids edges bars) v port in
        let joined : joins edges v w ≡ true = joins-from_joined_to (length ids) edges v w (neighbour-joined port below) in
        let far = is_vertex w (neighbour-vertex port below) in
        let back : Contains (joined_to (length ids) edges w) v =
        Contains-joined_to (length ids) edges w v (is_vertex v vertex).0 (is_vertex v vertex).1 (joins-swap edges w v ∙ joined) in
        place_of-below v (neighbours (network_of ids edges bars) w) (rw (neighbours-network_of w far.0 far.1) back)

  pub made-network : All (λ x. x < id_bound) ids → IsWithinLimits (length ids) edges → BarsFit (length ids) bars →
      ((v : ℕ) → IsCrowded (network_of ids edges bars) v → ⊥) →
      ((v w : ℕ) → HaveSameId (network_of ids edges bars) v w → ⊥) → IsNetwork (network_of ids edges bars)
  made-network small fits bars_fit not_crowded no_same_id = record {
    sizes = length-network_of ∙ ap length (sym ids-network_of);
    count = rw ids-network_of fits.nodes_fit;
    identifiers = λ v vertex. let low = is_vertex v vertex in rw ids-network_of (small (v - 1) 0 (omega arith));
    distinct = same_vertex;
    degrees = λ v vertex. few v vertex;
    vertices = λ v port vertex below. neighbour-vertex v vertex port below;
    ascending = λ v i j vertex less below. neighbour-ascends v vertex i j less below;
    other = λ v port vertex below. joins-other (length ids) edges v (neighbour_of (network_of ids edges bars) v port) fits
        (joins-from_joined_to (length ids) edges v _ (neighbour-joined v vertex port below));
    symmetric = λ v port vertex below. back-port v vertex port below;
    bar_lists = length-bars ∙ ap length (sym ids-network_of);
    few_bars = λ v vertex. rw (bars_are v vertex, length-barred_at bars v) (bars_fit.few v);
    barred_colours = λ v colour vertex h. barred_at-small (length ids) bars bars_fit v colour (rw (bars_are v vertex) at h);
    ascending_bars = λ v i j vertex less below.
        rw (bars_are v vertex) (barred_at-ascends (length ids) bars bars_fit v i j less (rw (bars_are v vertex) at below));
  }
    where
      few : (v : ℕ) → IsVertex (network_of ids edges bars) v → degree_of (network_of ids edges bars) v ≤ MAX_DEGREE
      few v vertex = elim (cases_order (degree_of (network_of ids edges bars) v) MAX_DEGREE) [
        | inl same ↦ omega arith
        | inr side ↦ elim side [
          | inl lt ↦ omega arith
          | inr gt ↦ absurd (not_crowded v (vertex, gt))
        ]
      ]

      same_vertex : (v w : ℕ) → IsVertex (network_of ids edges bars) v → IsVertex (network_of ids edges bars) w →
          id_of (network_of ids edges bars) v ≡ id_of (network_of ids edges bars) w → v ≡ w
      same_vertex v w a b same = elim (cases_order v w) [
        | inl e ↦ e
        | inr side ↦ elim side [
          | inl lt ↦ absurd (no_same_id v w (a, b, lt, same))
          | inr gt ↦ absurd (no_same_id w v (b, a, gt, sym same))
        ]
      ]
