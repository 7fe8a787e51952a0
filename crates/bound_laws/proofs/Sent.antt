-- How many payloads go over one direction of an edge below a pulse; and over all edges, by how many go over each.
use Rattle.std.proofs.Common.{◌≡◌, ◌≢◌, ℕ, zero, suc, ◌+◌, ◌-◌, ◌*◌, ◌<◌, ◌≤◌, length, ap, ◌∙◌, arith, subst}
use Rattle.std.specs.Prelude.{Option, Some, None}
use Rattle.std.proofs.lemmas.List.{length-append}
use native.Mathlib.Decide.{dec_lt}
use Prim.{yes, no}
use Rattle.interference.specs.Counts.{degree_sum_of, edge_count_of, sum_over_ports}
use Rattle.interference.specs.Net.{IsEdge, IsNetwork, Net, neighbour_of, neighbours}
use Rattle.interference.proofs.PortSums.{ports-add, ports-const}
use Rattle.interference.proofs.TwoEnds.{degrees-are_twice_edges, ports-swapped}
use Rattle.std.proofs.lemmas.List.Elements.{Contains-get_or}
use Rattle.node_api.specs.Program.{Program, last_pulse_on}
use Rattle.link_rule.specs.Sent.{sends}
use Rattle.wires.specs.Streams.{sent_pulse, sent_pulses}
use Rattle.alpha_laws.proofs.Sums.{ports-below}
use Rattle.alpha_laws.specs.Counts.{payloads_sent}

-- how many pulses below n send something
abbrev pub sent_below : {M : Type 0} → (ℕ → Option M) → ℕ → ℕ
sent_below sends n = length (sent_pulses sends n)

module _ {M : Type 0} (g : ℕ → Option M) where
  pub one-pulse : (n : ℕ) (x : Option M) → length (sent_pulse n x) ≤ 1
  one-pulse n None = omega arith
  one-pulse n (Some x) = omega arith

  pub next : (n : ℕ) → sent_below g (suc n) ≡ sent_below g n + length (sent_pulse n (g n))
  next n = length-append (sent_pulses g n) (sent_pulse n (g n))

  pub one-more : (n : ℕ) → sent_below g (suc n) ≤ sent_below g n + 1
  one-more n = omega (arith, next n, one-pulse n (g n))

  pub none-more : (n : ℕ) → g n ≡ None → sent_below g (suc n) ≡ sent_below g n
  none-more n none =
      let quiet : length (sent_pulse n (g n)) ≡ 0 = ap (λ (x : Option M). length (sent_pulse n x)) none in
      omega (arith, next n, quiet)

  pub no-less : (n m : ℕ) → n ≤ m → sent_below g n ≤ sent_below g m
  no-less n zero h = let e : n ≡ 0 = omega (arith, h) in rw e (omega arith)
  no-less n (suc m) h = elim (dec_lt m n) [
    | yes here ↦ let e : n ≡ suc m = omega (arith, h, here) in rw e (omega arith)
    | no before ↦ omega (arith, no-less n m (omega (arith, before)), next m)
  ]

  -- n pulses from a on
  pub at-most : (a n : ℕ) → sent_below g (a + n) ≤ sent_below g a + n
  at-most a zero = let e : a + zero ≡ a = omega arith in rw e (omega arith)
  at-most a (suc n) = let e : a + suc n ≡ suc (a + n) = omega arith in
      rw e (omega (arith, at-most a n, one-more (a + n)))

  -- at none of them anything is sent
  pub quiet : (a n : ℕ) → ((i : ℕ) → i < n → g (a + i) ≡ None) → sent_below g (a + n) ≡ sent_below g a
  quiet a zero none = ap (sent_below g) (let e : a + zero ≡ a = omega arith in e)
  quiet a (suc n) none =
      let e : a + suc n ≡ suc (a + n) = omega arith in
      ap (sent_below g) e ∙ (none-more (a + n) (none n (omega arith)) ∙ quiet a n (λ i h. none i (omega (arith, h))))

  -- at one of them at most
  pub once : (a n x : ℕ) → ((i : ℕ) → i < n → i ≢ x → g (a + i) ≡ None) → sent_below g (a + n) ≤ sent_below g a + 1
  once a zero x none = let e : a + zero ≡ a = omega arith in rw e (omega arith)
  once a (suc n) x none =
      let e : a + suc n ≡ suc (a + n) = omega arith in
      elim (dec_lt x n) [
        | yes before ↦
            let same : sent_below g (suc (a + n)) ≡ sent_below g (a + n) = none-more (a + n) (none n (omega arith) (λ at. omega (arith, at, before))) in
            rw e (omega (arith, same, once a n x (λ i h other. none i (omega (arith, h)) other)))
        | no late ↦
            let same : sent_below g (a + n) ≡ sent_below g a = quiet a n (λ i h. none i (omega (arith, h)) (λ at. omega (arith, at, h, late))) in
            rw e (omega (arith, same, one-more (a + n)))
      ]

-- If at most so many payloads go over each edge, both directions together, so many go over all.
module _ {S M E : Type 0} (program : Program S M E) (net : Net) (ok : IsNetwork net) where
  abbrev pub over : ℕ → ℕ → ℕ
  over v w = sent_below (sends program net v w) (last_pulse_on program net)

  pub payloads-by : (each : ℕ → ℕ → ℕ) → ((v w : ℕ) → IsEdge net v w → over v w + over w v ≤ each v w)
      → 2 * payloads_sent program net ≤ sum_over_ports net (λ v i. each v (neighbour_of net v i))
  payloads-by each few =
      let out : ℕ → ℕ → ℕ = λ v i. over v (neighbour_of net v i) in
      let back : ℕ → ℕ → ℕ = λ v i. over (neighbour_of net v i) v in
      let swapped : sum_over_ports net out ≡ sum_over_ports net back = ports-swapped net ok over in
      let both : sum_over_ports net (λ v i. out v i + back v i) ≡ sum_over_ports net out + sum_over_ports net back = ports-add net out back in
      let less : sum_over_ports net (λ v i. out v i + back v i) ≤ sum_over_ports net (λ v i. each v (neighbour_of net v i)) =
      ports-below net (λ v i. out v i + back v i) (λ v i. each v (neighbour_of net v i))
      (λ v i is_vertex below. few v (neighbour_of net v i) (is_vertex, Contains-get_or (neighbours net v) i 0 below)) in
      omega (arith, swapped, both, less)

  pub payloads-few : (each : ℕ) → ((v w : ℕ) → IsEdge net v w → over v w + over w v ≤ each)
      → payloads_sent program net ≤ edge_count_of net * each
  payloads-few each few =
      let twice : degree_sum_of net * each ≡ 2 * edge_count_of net * each = ap (λ n. n * each) (degrees-are_twice_edges net ok) in
      half (payloads_sent program net) (edge_count_of net) each
      (omega (arith, payloads-by (λ v w. each) few, ports-const net each, twice))
    where
      half : (p m c : ℕ) → 2 * p ≤ 2 * m * c → p ≤ m * c
      half p m c h = omega (arith, h)

  -- a payload a pulse at most
  pub any-over : (v w : ℕ) → over v w ≤ last_pulse_on program net
  any-over v w =
      let g : ℕ → Option M = sends program net v w in
      let last : ℕ = last_pulse_on program net in
      let most : sent_below g (0 + last) ≤ sent_below g 0 + last = at-most g 0 last in
      subst (λ (n : ℕ). sent_below g n ≤ last) (let e : 0 + last ≡ last = omega arith in e) (omega (arith, most))
