-- What is kept says what is claimed: nodes that keep their links simulate the synchronous run. What a node by itself
-- claims is `Stands`; the rest is of both ends of a link. At most two wires are under way; so no wire is refused.
use Rattle.std.proofs.Common.{ℕ, ◌+◌, ◌<◌, ◌≤◌, List, length, refl, sym, ap, ◌∙◌, arith, subst}
use Rattle.std.specs.Prelude.{IsOk}
use Rattle.std.proofs.lemmas.List.{length-append}
use Rattle.interference.specs.Net.{Net, IsNetwork, IsVertex, degree_of, neighbour_of}
use Rattle.node_api.specs.Program.{Program, last_pulse_on}
use Rattle.wires.specs.declared.wire.Wire.{Wire}
use Rattle.wires.specs.Streams.{Legal}
use Rattle.alpha_core.specs.View.{Node, port_at}
use Rattle.link_rule.specs.Sent.{sends}
use Rattle.wires.proofs.Wires.{legal-front, begins_from}
use Rattle.alpha_laws.specs.Position.{start_at}
use Rattle.alpha_laws.specs.Kept.{AllKept}
use Rattle.alpha_laws.specs.Simulates.{Simulates, taken_over, emitted_at}
use Rattle.alpha_laws.specs.Stands.{Stands}
use Rattle.alpha_laws.proofs.Across.{mine, theirs, whole', near_at, two_in_flight}
use Rattle.alpha_laws.proofs.EachPort.{out_from}
use Rattle.alpha_laws.proofs.Heard.{heard}
use Rattle.alpha_laws.proofs.Lawful.{legal_emitted}
use Rattle.alpha_laws.proofs.Listed.{safe_below}
use Rattle.alpha_laws.proofs.Next.{next_reacts}
use Rattle.alpha_laws.proofs.Runs.{Runs}
use Rattle.alpha_laws.proofs.Stands.{stands}

module _ {S M E : Type 0} {program : Program S M E} {net : Net} (ok : IsNetwork net) (runs : Runs program net) {nodes : ℕ → Node S M} {sent taken held : ℕ →
    ℕ → List (Wire M)} (kept : AllKept program net nodes sent taken held) where
  taken_is_legal : (v i : ℕ) (vertex : IsVertex net v) (lt : i < degree_of net v) →
      Legal (last_pulse_on program net) (sends program net (neighbour_of net v i) v) (sends program net v (neighbour_of net v i)) (taken v i)
  taken_is_legal v i vertex lt =
      let own = sends program net v (neighbour_of net v i) in
      let other = sends program net (neighbour_of net v i) v in
      legal-front (last_pulse_on program net) other own (taken v i) _ (subst (λ l. Legal (last_pulse_on program net) other own l)
      (sym (whole' ok kept v i vertex lt)) (legal_emitted (theirs ok kept v i vertex lt)))

  two_at : (v i : ℕ) → IsVertex net v → i < degree_of net v → length (held v i) + length (port_at (nodes v).view i).out ≤ 2
  two_at v i vertex lt = omega (arith, two_in_flight ok kept v i vertex lt runs, length-append (held v i) (port_at (nodes v).view i).out)

  stood : (v : ℕ) → IsVertex net v → Stands program net v (nodes v) (sent v) (taken v)
  stood v vertex = stands runs vertex (kept.each v vertex) (λ i lt. taken_is_legal v i vertex lt)

  pub simulates : Simulates program net nodes sent taken
  simulates = record {
    fits = λ v vertex. (stood v vertex).fits;
    within_last = λ v vertex. (stood v vertex).within_last;
    at_most_once_in_order = λ v i vertex lt. begins_from (taken_over net taken v i) (held v i) (sent v i) (kept.splits v i vertex lt);
    all_before_close = λ v i vertex lt has. (stood v vertex).all_before_close i lt has;
    none_after_close = λ v i vertex lt before after is. (stood v vertex).none_after_close i lt before after is;
    exact_inboxes = λ v q vertex lt. (stood v vertex).exact_inboxes q lt;
    exact_next_inbox = λ v vertex can. (stood v vertex).exact_next_inbox can;
    safe_means_safe = λ v i j q vertex lt lt' has.
        let one = mine ok kept v i vertex lt in
        heard (mine ok kept v j vertex lt') (theirs ok kept v j vertex lt') _ (whole' ok kept v j vertex lt') q
        (omega (
          arith,
          safe_below (sends program net v (neighbour_of net v i)) (last_pulse_on program net) start_at (emitted_at (nodes v) (sent v) i) q
              one.emits has,
          ap (λ c. c.safes) one.emitted_at,
        ));
    one_pulse_apart = λ v i vertex lt. near_at ok kept v i vertex lt;
    at_most_two_untaken = λ v i vertex lt. omega (
      arith,
      two_at v i vertex lt,
      length-append (sent v i) (port_at (nodes v).view i).out,
      sym (length-append (taken_over net taken v i) (held v i)) ∙ ap (λ (l : List (Wire M)). length l) (kept.splits v i vertex lt),
    );
    always_can_take = λ v vertex. out_from 3 (nodes v).view.ports (λ i lt.
        let n = (kept.each v vertex).ports.count in omega (arith, two_at v i vertex (omega arith)));
    no_wire_refused = λ v i vertex lt w more is. subst (λ r. IsOk r) (sym (next_reacts ok runs kept v i vertex lt w more is)) refl;
    no_pulse_refused = λ v vertex can. (stood v vertex).no_pulse_refused can;
  }
