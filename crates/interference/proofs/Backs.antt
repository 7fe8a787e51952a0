-- What the packed lists say of the ports that lead back, and of a whole row of neighbours or of barred colours.
use Rattle.std.proofs.Common.{◌≡◌, ℕ, suc, ◌+◌, ◌-◌, ◌<◌, List, length, get_or, take, drop, sym, ◌∙◌, ap, arith, subst}
use Rattle.std.proofs.lemmas.List.{get_or_read}
use Rattle.interference.specs.Net.{Net, IsVertex, neighbours, degree_of, neighbour_of, back_port_of, bars_of}
use Rattle.interference.specs.Rows.{net_from, IsPacked, HasBacks}
use Rattle.interference.proofs.RowsLemmas.{row_at}
use Rattle.interference.proofs.Packed.{is_vertex_from}

-- at a network that is seen as these lists, and at what was read of them
module _ (ids starts ports bar_starts bars : List ℕ) (again : ℕ) (p : IsPacked ids starts ports bar_starts bars again)
    (net : Net) (e : net_from ids starts ports bar_starts bars again ≡ net) (v : ℕ) (is_vertex : IsVertex net v)
  where
    in_net : IsVertex (net_from ids starts ports bar_starts bars again) v
    in_net = is_vertex_from ids starts ports bar_starts bars again p net e v is_vertex

    pub row_reads : (high low : ℕ) → high ≡ get_or starts v high → low ≡ get_or starts (v - 1) low → take (high - low) (drop low ports) ≡ neighbours net v
    row_reads high low a b =
        let from : IsVertex (net_from ids starts ports bar_starts bars again) v = in_net in
        let next : suc (v - 1) ≡ v = omega arith in
        let top : high ≡ get_or starts v 0 = get_or_read starts v high (omega (arith, p.neighbours.sizes)) a 0 in
        let bottom : low ≡ get_or starts (v - 1) 0 = get_or_read starts (v - 1) low (omega (arith, p.neighbours.sizes)) b 0 in
        let row = row_at starts ports (v - 1) (omega (arith, p.neighbours.sizes)) in
        let here : neighbours (net_from ids starts ports bar_starts bars again) v
        ≡ take (get_or starts v 0 - get_or starts (v - 1) 0) (drop (get_or starts (v - 1) 0) ports) = row ∙
        ap (λ i. take (get_or starts i 0 - get_or starts (v - 1) 0) (drop (get_or starts (v - 1) 0) ports)) next in
        subst (λ (n : Net). take (high - low) (drop low ports) ≡ neighbours n v) e (rw (top, bottom) (sym here))

    pub bars_read : (high low : ℕ) → high ≡ get_or bar_starts v high → low ≡ get_or bar_starts (v - 1) low → take (high - low) (drop low bars) ≡ bars_of net v
    bars_read high low a b =
        let from : IsVertex (net_from ids starts ports bar_starts bars again) v = in_net in
        let next : suc (v - 1) ≡ v = omega arith in
        let top : high ≡ get_or bar_starts v 0 = get_or_read bar_starts v high (omega (arith, p.barred.sizes)) a 0 in
        let bottom : low ≡ get_or bar_starts (v - 1) 0 = get_or_read bar_starts (v - 1) low (omega (arith, p.barred.sizes)) b 0 in
        let row = row_at bar_starts bars (v - 1) (omega (arith, p.barred.sizes)) in
        let here : bars_of (net_from ids starts ports bar_starts bars again) v
        ≡ take (get_or bar_starts v 0 - get_or bar_starts (v - 1) 0) (drop (get_or bar_starts (v - 1) 0) bars) = row ∙
        ap (λ i. take (get_or bar_starts i 0 - get_or bar_starts (v - 1) 0) (drop (get_or bar_starts (v - 1) 0) bars)) next in
        subst (λ (n : Net). take (high - low) (drop low bars) ≡ bars_of n v) e (rw (top, bottom) (sym here))

    module _ (backs : List ℕ) (h : HasBacks starts backs (net_from ids starts ports bar_starts bars again))
        (port : ℕ) (in_row : port < degree_of net v) (low : ℕ) (b : low ≡ get_or starts (v - 1) low) where
      in_row_from : port < degree_of (net_from ids starts ports bar_starts bars again) v
      in_row_from = subst (λ (n : Net). port < degree_of n v) (sym e) in_row

      bottom : low ≡ get_or starts (v - 1) 0
      bottom = let from : IsVertex (net_from ids starts ports bar_starts bars again) v = in_net in
          get_or_read starts (v - 1) low (omega (arith, p.neighbours.sizes)) b 0

      pub back_within : low + port < length backs
      back_within = rw bottom (h.size v port in_net in_row_from)

      pub back_reads : (x : ℕ) → x ≡ get_or backs (low + port) x → x ≡ back_port_of net v port
      back_reads x r =
          let read : x ≡ get_or backs (low + port) 0 = get_or_read backs (low + port) x back_within r 0 in
          let fact : get_or backs (low + port) 0 ≡ back_port_of (net_from ids starts ports bar_starts bars again) v port =
          rw bottom (h.back v port in_net in_row_from) in
          subst (λ (n : Net). x ≡ back_port_of n v port) e (read ∙ fact)

      pub back_below : (x : ℕ) → x ≡ get_or backs (low + port) x → x < degree_of net (neighbour_of net v port)
      back_below x r =
          let at_net : back_port_of net v port < degree_of net (neighbour_of net v port) =
          subst (λ (n : Net). back_port_of n v port < degree_of n (neighbour_of n v port)) e (p.network.symmetric v port in_net in_row_from) in
          subst (λ (y : ℕ). y < degree_of net (neighbour_of net v port)) (sym (back_reads x r)) at_net
