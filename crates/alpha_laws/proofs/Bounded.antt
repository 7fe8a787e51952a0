-- How many events nodes make. No node is past the last pulse, and the list of a link, with what stands in the out-list, is legal, so
-- it is at most as long as a complete one. If the network isn't whole a node can move: so a pulse, a put or a take is left, and
-- one of these terms is less than it can be.
use Rattle.std.proofs.Common.{◌≡◌, ℕ, ◌+◌, ◌-◌, ◌*◌, ◌<◌, ◌≤◌, true, not, List, length, get_or, sym, ap, ◌∙◌, arith, ⊎_elim}
use Rattle.std.specs.List.{sum_by}
use Rattle.std.proofs.lemmas.Bool.{and_parts, cases_eq, eq-eqb}
use Rattle.std.proofs.lemmas.List.{length-append}
use Rattle.std.proofs.lemmas.List.FromFn.{length-range_with_len, get_or-range_with_len}
use Rattle.std.proofs.lemmas.List.Sums.{sum_by-le}
use Rattle.interference.specs.Net.{Net, IsNetwork, IsVertex, count_of, vertices, degree_of, neighbour_of, back_port_of}
use Rattle.interference.specs.Counts.{sum_over_ports}
use Rattle.interference.proofs.PortSums.{at_vertices, ports-same, ports-add, ports-const}
use Rattle.interference.proofs.Sums.{sum_by-same, sum_by-const}
use Rattle.interference.proofs.TwoEnds.{ports-swapped, degrees-are_twice_edges}
use Rattle.node_api.specs.Program.{Program, last_pulse_on}
use Rattle.wires.specs.declared.wire.Wire.{Wire}
use Rattle.wires.specs.Streams.{sent_pulses}
use Rattle.alpha_core.specs.View.{Node, is_halted, port_at}
use Rattle.link_rule.specs.Sent.{sends}
use Rattle.alpha_laws.specs.Counts.{events_made, events_of_run, wires_of_run}
use Rattle.alpha_laws.specs.Simulates.{Simulates, taken_over}
use Rattle.alpha_laws.specs.Progress.{CanMove, IsWhole, Splits}
use Rattle.alpha_laws.proofs.Complete.{length-complete}
use Rattle.alpha_laws.proofs.Moves.{moves}
use Rattle.alpha_laws.proofs.Short.{few_wires}
use Rattle.alpha_laws.proofs.Sums.{ports-below, ports-less, sum_by-less}
use Rattle.alpha_laws.proofs.Whole.{all_taken, complete, ended}

-- ---- how many wires the lists of a whole run have
module _ {S M E : Type 0} (program : Program S M E) (net : Net) where
  abbrev last : ℕ
  last = last_pulse_on program net

  -- how many payloads v sends to w
  abbrev payloads : ℕ → ℕ → ℕ
  payloads v w = length (sent_pulses (sends program net v w) last)

  abbrev most : ℕ → ℕ → ℕ
  most v i = payloads v (neighbour_of net v i) + payloads (neighbour_of net v i) v + (last + 1)

  most_are : IsNetwork net → sum_over_ports net most ≡ wires_of_run program net
  most_are ok =
      let own : ℕ → ℕ → ℕ = λ v i. payloads v (neighbour_of net v i) in
      let other : ℕ → ℕ → ℕ = λ v i. payloads (neighbour_of net v i) v in
      omega (
        arith,
        ports-add net (λ v i. own v i + other v i) (λ v i. last + 1),
        ports-add net own other,
        ports-swapped net ok payloads,
        ports-const net (last + 1),
        ap (λ n. n * (last + 1)) (degrees-are_twice_edges net ok),
      )

module _ {S M E : Type 0} (program : Program S M E) (net : Net) (ok : IsNetwork net) (nodes : ℕ → Node S M) (sent taken held : ℕ → ℕ → List (Wire M))
    (sim : Simulates program net nodes sent taken) (splits : Splits net sent taken held) where
  abbrev pulse_of : ℕ → ℕ
  pulse_of v = (nodes v).view.pulse

  -- the wires put on a link, and those taken from it; and how many these can be
  abbrev moved : ℕ → ℕ → ℕ
  moved v i = length (sent v i) + length (taken_over net taken v i)

  abbrev all : ℕ → ℕ → ℕ
  all v i = most program net v i + most program net v i

  size : length (vertices net) ≡ count_of net
  size = length-range_with_len 1 (count_of net)

  pulses_most : sum_by pulse_of (vertices net) ≤ count_of net * last program net
  pulses_most =
      omega (
        arith,
        sum_by-le pulse_of (last program net) (vertices net) (λ k d lt. sim.within_last (get_or (vertices net) k d) (at_vertices net k d lt)),
        ap (λ n. n * last program net) size,
      )

  link_most : (v i : ℕ) → IsVertex net v → i < degree_of net v → length (sent v i) + length (port_at (nodes v).view i).out ≤ most program net v i
  link_most v i vertex lt =
      let w = neighbour_of net v i in
      omega (
        arith,
        few_wires (last program net) (sends program net v w) (sends program net w v) _ ((sim.fits v vertex).ports i lt).emitted_legal,
        length-append (sent v i) (port_at (nodes v).view i).out,
      )

  link_splits : (v i : ℕ) → IsVertex net v → i < degree_of net v → length (sent v i) ≡ length (taken_over net taken v i) + length (held v i)
  link_splits v i vertex lt = ap (λ l. length l) (sym (splits v i vertex lt)) ∙ length-append (taken_over net taken v i) (held v i)

  moved_most : (v i : ℕ) → IsVertex net v → i < degree_of net v → moved v i ≤ all v i
  moved_most v i vertex lt = omega (arith, link_most v i vertex lt, link_splits v i vertex lt)

  all_are : sum_over_ports net all ≡ 2 * wires_of_run program net
  all_are = omega (arith, ports-add net (most program net) (most program net), most_are program net ok)

  pub bounded : events_made net nodes sent taken ≤ events_of_run program net
  bounded = omega (arith, pulses_most, all_are, ports-below net moved all moved_most)

  -- a whole network has made them all
  pub whole_counted : IsWhole program net nodes held → events_made net nodes sent taken ≡ events_of_run program net
  whole_counted whole =
      omega (
        arith,
        sum_by-same pulse_of (λ v. last program net) (vertices net) (λ k d lt.
            ended ok sim splits whole (get_or (vertices net) k d) (at_vertices net k d lt)),
        sum_by-const (last program net) (vertices net),
        ap (λ n. n * last program net) size,
        all_are,
        ports-same net moved all (λ v i vertex lt.
            let w = neighbour_of net v i in
            omega (
              arith,
              length-complete (sends program net v w) (last program net) (sends program net w v) (sent v i) (complete ok sim splits whole v i vertex lt),
              ap (λ l. length l) (all_taken ok sim splits whole v i vertex lt),
            )),
      )

  -- fewer, if a wire is left,
  fewer_wires : (v i : ℕ) → IsVertex net v → i < degree_of net v → moved v i < all v i → events_made net nodes sent taken < events_of_run program net
  fewer_wires v i vertex lt less = omega (arith, pulses_most, all_are, ports-less net moved all moved_most v i vertex lt less)

  -- or a pulse is left
  fewer_pulses : (v : ℕ) → IsVertex net v → pulse_of v < last program net → events_made net nodes sent taken < events_of_run program net
  fewer_pulses v vertex less =
      let vs = vertices net in
      let k = v - 1 in
      let below : k < count_of net = omega (arith, vertex.0, vertex.1) in
      let at : get_or vs k 0 ≡ v = omega (arith, get_or-range_with_len 1 (count_of net) k 0 below, vertex.0) in
      omega (
        arith,
        all_are,
        ports-below net moved all moved_most,
        sum_by-less pulse_of (λ v. last program net) vs k 0
            (λ j d lt. sim.within_last (get_or vs j d) (at_vertices net j d lt)) (omega (arith, size, below)) (omega (arith, ap pulse_of at, less)),
        sum_by-const (last program net) vs,
        ap (λ n. n * last program net) size,
      )

  -- if a node can move, an event is left
  event_left : (v : ℕ) → IsVertex net v → CanMove 1 program net nodes held v → events_made net nodes sent taken < events_of_run program net
  event_left v vertex can = ⊎_elim
      (λ (takes, (i, lt, holds)).
      let w = neighbour_of net v i in
      let j = back_port_of net v i in
      let vertex' = ok.vertices v i vertex lt in
      let lt' = ok.symmetric v i vertex lt in
      fewer_wires w j vertex' lt' (omega (arith, link_most w j vertex' lt', link_splits w j vertex' lt', holds)))
      (λ more. ⊎_elim
      (λ (i, lt, some, room). fewer_wires v i vertex lt (omega (arith, link_most v i vertex lt, link_splits v i vertex lt, some)))
      (λ pulses.
      let view = (nodes v).view in
      let goes_on : not (is_halted (last program net) view) ≡ true = (and_parts _ _ (and_parts _ _ (and_parts _ _ pulses).0).0).0 in
      fewer_pulses v vertex (⊎_elim
      (λ same. let halted : is_halted (last program net) view ≡ true = eq-eqb (pulse_of v) (last program net) same in
      let wrong : not true ≡ true = ap not (sym halted) ∙ goes_on in
      absurd cc)
      (λ ne. omega (arith, sim.within_last v vertex))
      (cases_eq (pulse_of v) (last program net))))
      more)
      can

  pub counted_whole : events_made net nodes sent taken ≡ events_of_run program net → IsWhole program net nodes held
  counted_whole many = ⊎_elim
      (λ (v, vertex, can). absurd (omega (arith, many, event_left v vertex can)))
      (λ whole. whole)
      (moves ok sim splits 1 (omega arith))
