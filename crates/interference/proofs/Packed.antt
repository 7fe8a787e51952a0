-- What the packed lists say of the network that they are.
use Rattle.std.proofs.Common.{◌≡◌, ℕ, suc, ◌+◌, ◌-◌, ◌<◌, ◌≤◌, List, [], length, get_or, ap, sym, ◌∙◌, arith, subst}
use Rattle.interference.specs.Net.{Net, IsVertex, degree_of, neighbour_of}
use Rattle.interference.specs.declared.limits.TheConstants.{MAX_DEGREE}
use Rattle.std.proofs.lemmas.List.{get_or_read}
use Rattle.interference.specs.Rows.{rows, net_from, IsPacked}
use Rattle.interference.proofs.RowsLemmas.{length-row, get_or-row}

module _ (ids starts ports bar_starts bars : List ℕ) (again : ℕ) (p : IsPacked ids starts ports bar_starts bars again) (v : ℕ)
    (in_net : IsVertex (net_from ids starts ports bar_starts bars again) v) where
  pub degree_is : degree_of (net_from ids starts ports bar_starts bars again) v ≡ get_or starts v 0 - get_or starts (v - 1) 0
  degree_is =
      let next : suc (v - 1) ≡ v = omega arith in
      let fact : length (get_or (rows starts ports) (v - 1) []) ≡ get_or starts (suc (v - 1)) 0 - get_or starts (v - 1) 0 =
      length-row starts ports (v - 1) (omega (arith, p.neighbours.sizes)) (rw next (p.neighbours.within v (omega arith)))
      (p.neighbours.within (v - 1) (omega arith)) in
      fact ∙ ap (λ i. get_or starts i 0 - get_or starts (v - 1) 0) next

  pub neighbour_is : (port : ℕ) → port < degree_of (net_from ids starts ports bar_starts bars again) v →
      neighbour_of (net_from ids starts ports bar_starts bars again) v port ≡ get_or ports (get_or starts (v - 1) 0 + port) 0
  neighbour_is port in_row =
      let next : suc (v - 1) ≡ v = omega arith in
      let below : port < get_or starts v 0 - get_or starts (v - 1) 0 = omega (arith, degree_is) in
      get_or-row starts ports (v - 1) port (omega (arith, p.neighbours.sizes)) (rw next below)

  pub neighbour_in : (port : ℕ) → port < degree_of (net_from ids starts ports bar_starts bars again) v → get_or starts (v - 1) 0 + port < length ports
  neighbour_in port in_row = omega (arith, degree_is, p.neighbours.within v (omega arith))

-- the same of a network that is seen as these lists, at what was read of them
module _ (ids starts ports bar_starts bars : List ℕ) (again : ℕ) (p : IsPacked ids starts ports bar_starts bars again)
    (net : Net) (e : net_from ids starts ports bar_starts bars again ≡ net) (v : ℕ) (is_vertex : IsVertex net v)
  where
    pub is_vertex_from : IsVertex (net_from ids starts ports bar_starts bars again) v
    is_vertex_from = subst (λ (n : Net). IsVertex n v) (sym e) is_vertex

    pub degree_reads : (high low : ℕ) → high ≡ get_or starts v high → low ≡ get_or starts (v - 1) low → high - low ≡ degree_of net v
    degree_reads high low a b =
        let in_net : IsVertex (net_from ids starts ports bar_starts bars again) v = is_vertex_from in
        let top : high ≡ get_or starts v 0 = get_or_read starts v high (omega (arith, p.neighbours.sizes)) a 0 in
        let bottom : low ≡ get_or starts (v - 1) 0 = get_or_read starts (v - 1) low (omega (arith, p.neighbours.sizes)) b 0 in
        subst (λ (n : Net). high - low ≡ degree_of n v) e (omega (arith, degree_is ids starts ports bar_starts bars again p v in_net))

    pub degree-within_limit : degree_of net v ≤ MAX_DEGREE
    degree-within_limit = subst (λ (n : Net). degree_of n v ≤ MAX_DEGREE) e (p.network.degrees v is_vertex_from)

    module _ (port : ℕ) (in_row : port < degree_of net v) (low : ℕ) (b : low ≡ get_or starts (v - 1) low) where
      in_row_from : port < degree_of (net_from ids starts ports bar_starts bars again) v
      in_row_from = subst (λ (n : Net). port < degree_of n v) (sym e) in_row

      pub neighbour_within : low + port < length ports
      neighbour_within =
          let in_net : IsVertex (net_from ids starts ports bar_starts bars again) v = is_vertex_from in
          let bottom : low ≡ get_or starts (v - 1) 0 = get_or_read starts (v - 1) low (omega (arith, p.neighbours.sizes)) b 0 in
          rw bottom (neighbour_in ids starts ports bar_starts bars again p v in_net port in_row_from)

      pub neighbour_reads : (x : ℕ) → x ≡ get_or ports (low + port) x → x ≡ neighbour_of net v port
      neighbour_reads x r =
          let in_net : IsVertex (net_from ids starts ports bar_starts bars again) v = is_vertex_from in
          let bottom : low ≡ get_or starts (v - 1) 0 = get_or_read starts (v - 1) low (omega (arith, p.neighbours.sizes)) b 0 in
          let read : x ≡ get_or ports (low + port) 0 = get_or_read ports (low + port) x neighbour_within r 0 in
          let fact : neighbour_of (net_from ids starts ports bar_starts bars again) v port ≡ get_or ports (low + port) 0 =
          rw bottom (neighbour_is ids starts ports bar_starts bars again p v in_net port in_row_from) in
          subst (λ (n : Net). x ≡ neighbour_of n v port) e (read ∙ sym fact)

      pub neighbour_vertex : (x : ℕ) → x ≡ get_or ports (low + port) x → IsVertex net x
      neighbour_vertex x r =
          let at_net : IsVertex net (neighbour_of net v port) = subst (λ (n : Net). IsVertex n (neighbour_of n v port)) e
          (p.network.vertices v port is_vertex_from in_row_from) in
          subst (λ (y : ℕ). IsVertex net y) (sym (neighbour_reads x r)) at_net
