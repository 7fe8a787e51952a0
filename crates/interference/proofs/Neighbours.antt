-- What every network keeps, at its vertices and ports.
use Rattle.std.proofs.Common.{◌≡◌, ◌≢◌, inl, inr, ℕ, ◌+◌, ◌-◌, ◌<◌, ◌≤◌, [], length, get_or, ap, ◌∙◌, arith, subst}
use Rattle.std.specs.List.{Contains}
use Rattle.std.proofs.lemmas.Bool.{cases_order, cases_lt}
use Rattle.std.proofs.lemmas.List.{get_or_default, get_or_past}
use Rattle.std.proofs.lemmas.List.Elements.{Contains-get_or}
use Rattle.std.proofs.lemmas.List.Sums.{count_by-le-length}
use Rattle.std.specs.Prelude.{nat_lt}
use Rattle.interference.specs.Net.{Net, id_bound, IsNetwork, IsVertex, count_of, id_of, neighbours, degree_of, neighbour_of, port_to, back_port_of}
use Rattle.interference.specs.Net.{greatest_degree_of, bar_count_of, bars_of, greatest_bars_of, higher_count, forest_count_of}
use Rattle.graph_limits.specs.declared.limits.TheConstants.{MAX_BARS}
use Rattle.interference.specs.declared.limits.TheConstants.{MAX_DEGREE}
use Rattle.interference.proofs.Members.{place_of-below, place_of-is, Contains-place_of}
use Rattle.interference.proofs.Greatest.{longest-holds, longest-within, longest-reached, greatest-holds, greatest-within, greatest-reached}

module _ (net : Net) (ok : IsNetwork net) where
  -- ---- ports
  pub port-of : (v w : ℕ) → Contains (neighbours net v) w → (port : ℕ) × (port < degree_of net v) × (neighbour_of net v port ≡ w)
  port-of v w (port, below, is) = (port, below, get_or_default (neighbours net v) port 0 w below ∙ is)

  pub neighbour-is_vertex : (v w : ℕ) → IsVertex net v → Contains (neighbours net v) w → IsVertex net w
  neighbour-is_vertex v w vertex h = let (port, below, is) = port-of v w h in subst (λ (u : ℕ). IsVertex net u) is (ok.vertices v port vertex below)

  pub same-port : (v i j : ℕ) → IsVertex net v → i < degree_of net v → j < degree_of net v → neighbour_of net v i ≡ neighbour_of net v j → i ≡ j
  same-port v i j vertex a b same = elim (cases_order i j) [
    | inl e ↦ e
    | inr side ↦ elim side [
      | inl lt ↦ let less : neighbour_of net v i < neighbour_of net v j = ok.ascending v i j vertex lt b in absurd (omega arith)
      | inr gt ↦ let less : neighbour_of net v j < neighbour_of net v i = ok.ascending v j i vertex gt a in absurd (omega arith)
    ]
  ]

  pub port_to-below : (v w : ℕ) → Contains (neighbours net v) w → port_to net v w < degree_of net v
  port_to-below v w h = place_of-below w (neighbours net v) h

  pub at-port_to : (v w : ℕ) → Contains (neighbours net v) w → neighbour_of net v (port_to net v w) ≡ w
  at-port_to v w h = place_of-is w (neighbours net v) 0 (port_to-below v w h)

  pub port_to-is : (v port : ℕ) → IsVertex net v → port < degree_of net v → port_to net v (neighbour_of net v port) ≡ port
  port_to-is v port vertex below =
      let h : Contains (neighbours net v) (neighbour_of net v port) = Contains-get_or (neighbours net v) port 0 below in
      same-port v (port_to net v (neighbour_of net v port)) port vertex (port_to-below v (neighbour_of net v port) h) below
      (at-port_to v (neighbour_of net v port) h)

  -- ---- ports back
  pub at-back_port : (v port : ℕ) → IsVertex net v → port < degree_of net v → neighbour_of net (neighbour_of net v port) (back_port_of net v port) ≡ v
  at-back_port v port vertex below = place_of-is v (neighbours net (neighbour_of net v port)) 0 (ok.symmetric v port vertex below)

  pub back-of-back_port : (v port : ℕ) → IsVertex net v → port < degree_of net v → back_port_of net (neighbour_of net v port) (back_port_of net v port) ≡ port
  back-of-back_port v port vertex below =
      ap (λ u. port_to net u (neighbour_of net v port)) (at-back_port v port vertex below) ∙ port_to-is v port vertex below

  pub both-ways : (v w : ℕ) → IsVertex net v → Contains (neighbours net v) w → Contains (neighbours net w) v
  both-ways v w vertex h =
      let (port, below, is) = port-of v w h in
      subst (λ (u : ℕ). Contains (neighbours net u) v) is (Contains-place_of v (neighbours net (neighbour_of net v port)) (ok.symmetric v port vertex below))

  -- ---- identifiers
  pub neighbour-id : (v port : ℕ) → IsVertex net v → port < degree_of net v → id_of net (neighbour_of net v port) ≢ id_of net v
  neighbour-id v port vertex below same = ok.other v port vertex below (ok.distinct (neighbour_of net v port) v (ok.vertices v port vertex below) vertex same)

  pub neighbour-ids : (v i j : ℕ) → IsVertex net v → i < j → j < degree_of net v → id_of net (neighbour_of net v i) ≢ id_of net (neighbour_of net v j)
  neighbour-ids v i j vertex less below same =
      let e : neighbour_of net v i ≡ neighbour_of net v j = ok.distinct (neighbour_of net v i) (neighbour_of net v j) (ok.vertices v i vertex (omega arith))
      (ok.vertices v j vertex below) same in
      let lt : neighbour_of net v i < neighbour_of net v j = ok.ascending v i j vertex less below in
      omega arith

  pub id-small : (v : ℕ) → id_of net v < id_bound
  id-small v = elim (cases_lt (v - 1) (length net.ids)) [
    | inl below ↦ let e : v - 1 + 1 - 1 ≡ v - 1 = omega arith in
        subst (λ (i : ℕ). get_or net.ids i 0 < id_bound) e (ok.identifiers (v - 1 + 1) (omega arith, omega arith))
    | inr past ↦ let e : get_or net.ids (v - 1) 0 ≡ 0 = get_or_past net.ids (v - 1) 0 past in omega (arith, e)
  ]

  -- ---- degrees and higher neighbours
  pub degree-within : (v : ℕ) → degree_of net v ≤ greatest_degree_of net
  degree-within v = longest-holds net.ports (v - 1)

  pub greatest_degree-within : greatest_degree_of net ≤ MAX_DEGREE
  greatest_degree-within = longest-within net.ports MAX_DEGREE (λ i below.
      let e : i + 1 - 1 ≡ i = omega arith in
      subst (λ (k : ℕ). length (get_or net.ports k []) ≤ MAX_DEGREE) e (ok.degrees (i + 1) (omega arith, omega (arith, ok.sizes))))

  pub greatest_degree-reached : 0 < count_of net → (v : ℕ) × IsVertex net v × (degree_of net v ≡ greatest_degree_of net)
  greatest_degree-reached some =
      let (i, below, is) = longest-reached net.ports (omega (arith, ok.sizes)) in
      let e : i ≡ i + 1 - 1 = omega arith in
      (i + 1, (omega arith, omega (arith, ok.sizes)), subst (λ (k : ℕ). length (get_or net.ports k []) ≡ greatest_degree_of net) e is)

  -- ---- bars
  pub bars-within : (v : ℕ) → bar_count_of net v ≤ greatest_bars_of net
  bars-within v = longest-holds net.bars (v - 1)

  pub bars-rise : (v i j : ℕ) → IsVertex net v → i ≤ j → j < bar_count_of net v → get_or (bars_of net v) i 0 ≤ get_or (bars_of net v) j 0
  bars-rise v i j vertex le below = elim (cases_order i j) [
    | inl same ↦ let e : get_or (bars_of net v) i 0 ≡ get_or (bars_of net v) j 0 = ap (λ k. get_or (bars_of net v) k 0) same in omega arith
    | inr side ↦ elim side [
      | inl lt ↦ let less : get_or (bars_of net v) i 0 < get_or (bars_of net v) j 0 = ok.ascending_bars v i j vertex lt below in omega arith
      | inr gt ↦ absurd (omega arith)
    ]
  ]

  pub greatest_bars-within : greatest_bars_of net ≤ MAX_BARS
  greatest_bars-within = longest-within net.bars MAX_BARS (λ i below.
      let e : i + 1 - 1 ≡ i = omega arith in
      subst (λ (k : ℕ). length (get_or net.bars k []) ≤ MAX_BARS) e (ok.few_bars (i + 1) (omega arith, omega (arith, ok.bar_lists))))

  pub greatest_bars-reached : 0 < count_of net → (v : ℕ) × IsVertex net v × (bar_count_of net v ≡ greatest_bars_of net)
  greatest_bars-reached some =
      let (i, below, is) = longest-reached net.bars (omega (arith, ok.bar_lists)) in
      let e : i ≡ i + 1 - 1 = omega arith in
      (i + 1, (omega arith, omega (arith, ok.bar_lists)), subst (λ (k : ℕ). length (get_or net.bars k []) ≡ greatest_bars_of net) e is)

  pub higher_count-within : (v : ℕ) → higher_count net v ≤ degree_of net v
  higher_count-within v = count_by-le-length (λ w. nat_lt (id_of net v) (id_of net w)) (neighbours net v)

  pub higher_count-le-forests : (v : ℕ) → IsVertex net v → higher_count net v ≤ forest_count_of net
  higher_count-le-forests v vertex = greatest-holds (higher_count net) 1 (count_of net) v vertex.0 (omega arith)

  pub forest_count-reached : 0 < count_of net → (v : ℕ) × IsVertex net v × (higher_count net v ≡ forest_count_of net)
  forest_count-reached some =
      let (v, low, high, is) = greatest-reached (higher_count net) 1 (count_of net) some in
      (v, (low, omega arith), is)

  pub forest_count-within : forest_count_of net ≤ greatest_degree_of net
  forest_count-within = greatest-within (higher_count net) 1 (count_of net) (greatest_degree_of net) (λ v low high.
      let a : higher_count net v ≤ degree_of net v = higher_count-within v in
      let b : degree_of net v ≤ greatest_degree_of net = degree-within v in
      omega (arith, a, b))

  -- at most as many forests as a vertex may have neighbours
  pub forest_count-limited : forest_count_of net ≤ MAX_DEGREE
  forest_count-limited =
      let few : greatest_degree_of net ≤ MAX_DEGREE = greatest_degree-within in
      let within : forest_count_of net ≤ greatest_degree_of net = forest_count-within in
      omega arith
