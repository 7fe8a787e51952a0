-- How many events a run can have on a network within the limits: a sum over all nodes and ports.
use Rattle.std.proofs.Common.{ℕ, zero, suc, ◌+◌, ◌*◌, ◌^◌, ◌<◌, ◌≤◌, length, Option, Some, None, arith, mul-le-mul}
use Rattle.std.specs.Prelude.{nat_lt, count_by, sum_by}
use Rattle.std.specs.List.{range_with_len}
use Rattle.std.proofs.lemmas.List.{length-append}
use Rattle.std.proofs.lemmas.List.FromFn.{length-range_with_len}
use Rattle.std.proofs.lemmas.List.Sums.{count_by-le-length, sum_by-le}
use Rattle.graph_limits.specs.declared.limits.TheConstants.{MAX_NODES}
use Rattle.interference.specs.declared.limits.TheConstants.{MAX_DEGREE}
use Rattle.interference.specs.Net.{Net, IsNetwork, count_of, degree_of, neighbour_of, neighbours, vertices}
use Rattle.interference.specs.Counts.{edge_count_of, sum_over_ports}
use Rattle.interference.proofs.Neighbours.{degree-within, greatest_degree-within}
use Rattle.link_rule.specs.Sent.{sends}
use Rattle.wires.specs.Streams.{sent_pulse, sent_pulses}
use Rattle.node_api.specs.Program.{Program, last_pulse_on}
use Rattle.alpha_laws.specs.Counts.{events_of_run, payloads_sent}

few_pulses : {M : Type 0} (sends : ℕ → Option M) (last : ℕ) → length (sent_pulses sends last) ≤ last
few_pulses sends zero = omega arith
few_pulses sends (suc n) =
    omega (arith, length-append (sent_pulses sends n) (sent_pulse n (sends n)), few_pulses sends n, one (sends n))
  where
    one : {M : Type 0} (o : Option M) → length (sent_pulse n o) ≤ 1
    one None = omega arith
    one (Some x) = omega arith

-- no last pulse is greater
abbrev most : ℕ
most = 2 ^ 32

module _ {S M E : Type 0} (program : Program S M E) (net : Net) (ok : IsNetwork net) (short : last_pulse_on program net < most) where
  low : last_pulse_on program net ≤ most
  low = omega (arith, short)

  degrees : (v : ℕ) → degree_of net v ≤ MAX_DEGREE
  degrees v = let a = degree-within net ok v in let b = greatest_degree-within net ok in omega (arith, a, b)

  nodes : length (vertices net) ≤ MAX_NODES
  nodes = let n = length-range_with_len 1 (count_of net) in omega (arith, n, ok.count)

  -- a sum over all vertices
  over-vertices : (f : ℕ → ℕ) (m : ℕ) → ((v : ℕ) → f v ≤ m) → sum_by f (vertices net) ≤ MAX_NODES * m
  over-vertices f m each =
      let sum = sum_by-le f m (vertices net) (λ k d lt. each _) in
      let same : m ≤ m = omega arith in
      let most : length (vertices net) * m ≤ MAX_NODES * m = mul-le-mul nodes same in
      omega (sum, most, arith)

  over-ports : (f : ℕ → ℕ → ℕ) (m : ℕ) → ((v i : ℕ) → f v i ≤ m) → sum_over_ports net f ≤ MAX_NODES * (MAX_DEGREE * m)
  over-ports f m each = over-vertices (λ v. sum_by (f v) (range_with_len 0 (degree_of net v))) (MAX_DEGREE * m) row
    where
      row : (v : ℕ) → sum_by (f v) (range_with_len 0 (degree_of net v)) ≤ MAX_DEGREE * m
      row v =
          let ports = range_with_len 0 (degree_of net v) in
          let sum = sum_by-le (f v) m ports (λ k d lt. each v _) in
          let many : length ports ≤ MAX_DEGREE = let n = length-range_with_len 0 (degree_of net v) in let d = degrees v in omega (arith, n, d) in
          let same : m ≤ m = omega arith in
          let most : length ports * m ≤ MAX_DEGREE * m = mul-le-mul many same in
          omega (sum, most, arith)

  payloads : payloads_sent program net ≤ MAX_NODES * (MAX_DEGREE * most)
  payloads = over-ports (λ v i. length (sent_pulses (sends program net v (neighbour_of net v i)) (last_pulse_on program net))) most
      (λ v i. let few = few_pulses (sends program net v (neighbour_of net v i)) (last_pulse_on program net) in omega (few, low, arith))

  edges : edge_count_of net ≤ MAX_NODES * MAX_DEGREE
  edges = over-vertices (λ v. count_by (nat_lt v) (neighbours net v)) MAX_DEGREE
      (λ v. let some = count_by-le-length (nat_lt v) (neighbours net v) in let d = degrees v in omega (some, d, arith))

  pub few-events : events_of_run program net < 2 ^ 60
  few-events =
      let pulses : count_of net * last_pulse_on program net ≤ MAX_NODES * most = mul-le-mul ok.count low in
      let both : 2 * edge_count_of net ≤ 2 * (MAX_NODES * MAX_DEGREE) = let e = edges in omega (e, arith) in
      let after : last_pulse_on program net + 1 ≤ most + 1 = omega (low, arith) in
      let safes : 2 * edge_count_of net * (last_pulse_on program net + 1) ≤ 2 * (MAX_NODES * MAX_DEGREE) * (most + 1) =
      mul-le-mul both after in
      let sent = payloads in
      omega (arith, pulses, safes, sent)
