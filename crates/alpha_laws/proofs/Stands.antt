-- A node that keeps its links, and took legal lists, stands where the synchronous run has it.
use Rattle.std.proofs.Common.{◌≡◌, ℕ, suc, ◌<◌, List, length, get_or, refl, sym, ap, ◌∙◌, arith, subst}
use Rattle.std.specs.Prelude.{Contains, IsOk}
use Rattle.std.specs.List.{range_with_len}
use Rattle.std.proofs.lemmas.List.{length-map, get_or-map, same_lists}
use Rattle.std.proofs.lemmas.List.FromFn.{length-range_with_len, get_or-range_with_len}
use Rattle.interference.specs.Net.{Net, IsVertex, degree_of, neighbours, neighbour_of, port_to}
use Rattle.node_api.specs.Boxes.{at_port}
use Rattle.node_api.specs.Program.{Program, last_pulse_on}
use Rattle.node_api.specs.Run.{outbox_at, inbox_at}
use Rattle.wires.specs.declared.wire.Wire.{Wire}
use Rattle.wires.specs.declared.wire.Wire.TheVariants.{Close}
use Rattle.wires.specs.Wires.{payload_at}
use Rattle.wires.proofs.Wires.{legal-front}
use Rattle.alpha_core.specs.View.{Node, port_at}
use Rattle.link_rule.specs.Sent.{IsLegal, sends}
use Rattle.alpha_laws.specs.Position.{start_at}
use Rattle.alpha_laws.specs.Kept.{NodeKept}
use Rattle.alpha_laws.specs.Simulates.{IsCompleteOn, emitted_at, heard_at}
use Rattle.alpha_laws.specs.Stands.{Stands, TakesAreLegal}
use Rattle.alpha_laws.proofs.EachPort.{none_from}
use Rattle.alpha_laws.proofs.Heard.{passed_at}
use Rattle.alpha_laws.proofs.Lawful.{legal_emitted}
use Rattle.alpha_laws.proofs.Listed.{has_split, safe_below}
use Rattle.alpha_laws.proofs.NodeLaws.{pulses_keep}
use Rattle.alpha_laws.proofs.NodePulses.{inbox_is, can_below}
use Rattle.alpha_laws.proofs.PortClaims.{acked, port_fits}
use Rattle.alpha_laws.proofs.Runs.{Runs}

module _ {S M E : Type 0} {program : Program S M E} {net : Net} (runs : Runs program net) {v : ℕ} {node : Node S M} {sent taken : ℕ →
    List (Wire M)} (vertex : IsVertex net v) (kept : NodeKept program net v node sent taken) (legal : TakesAreLegal program net v taken) where
  in_ports : (i : ℕ) → i < length node.view.ports → i < degree_of net v
  in_ports i lt = let n = kept.ports.count in omega arith

  heard_is : (q : ℕ) → q < node.view.pulse → heard_at net taken v q ≡ inbox_at program net (suc q) v
  heard_is q lt = same_lists _ _ (length-map (range_with_len 0 (degree_of net v)) _ ∙ length-range_with_len 0 (degree_of net v) ∙
      sym (length-map (neighbours net v) _)) (λ k d inside.
      let below : k < degree_of net v = omega (
        arith,
        length-map (range_with_len 0 (degree_of net v)) (λ i. payload_at q (taken i)),
        length-range_with_len 0 (degree_of net v),
      ) in
      let at : get_or (range_with_len 0 (degree_of net v)) k 0 ≡ k = omega (arith, get_or-range_with_len 0 (degree_of net v) k 0 below) in
      get_or-map (λ i. payload_at q (taken i)) (range_with_len 0 (degree_of net v)) k 0 d (omega (arith, length-range_with_len 0 (degree_of net v)))
      ∙ ap (λ i. payload_at q (taken i)) at ∙ passed_at (kept.ports.each k below) q lt
      ∙ sym (get_or-map (λ w. at_port (outbox_at program net q w) (port_to net w v)) (neighbours net v) k 0 d below))

  put_is_legal : (i : ℕ) → i < degree_of net v → IsLegal program net v (neighbour_of net v i) (sent i)
  put_is_legal i lt = legal-front (last_pulse_on program net) (sends program net v (neighbour_of net v i))
      (sends program net (neighbour_of net v i) v) (sent i) (port_at node.view i).out (legal_emitted (kept.ports.each i lt))

  complete : (i : ℕ) → i < degree_of net v → Contains (taken i) Close → IsCompleteOn program net (neighbour_of net v i) v (taken i)
  complete i lt has =
      let at = has_split (taken i) Close has in
      let all = (legal i lt).close at.0 at.1 at.2 in (all.1, all.2)

  pub stands : Stands program net v node sent taken
  stands = record {
    fits = record {
      count = kept.ports.count;
      state = kept.state;
      ports = λ i lt. port_fits (kept.ports.each i lt) (legal i lt);
      said = (
        λ e. (
          kept.ports.before_last e,
          none_from node.view.ports (λ i lt. (kept.ports.each i (in_ports i lt)).quiet e),
        ),
        λ both. kept.spoken both.0 both.1,
      );
    };
    within_last = kept.ports.within;
    exact_inboxes = λ q lt. heard_is q lt;
    exact_next_inbox = λ can. inbox_is kept (can_below kept can).1;
    no_pulse_refused = λ can.
        let next = pulses_keep program net runs v node sent taken kept vertex can in
        subst (λ r. IsOk r) (sym next.1) refl;
    put_legal = λ i lt. put_is_legal i lt;
    all_before_close = λ i lt has. complete i lt has;
    none_after_close = λ i lt before after is. let all = (put_is_legal i lt).close before after is in all.0;
    none_taken_after_close = λ i lt before after is. let all = (legal i lt).close before after is in all.0;
    safe_means_acknowledged = λ i j q lt lt' has some.
        let one = kept.ports.each i lt in
        acked (kept.ports.each j lt') q (omega (
          arith,
          safe_below (sends program net v (neighbour_of net v i)) (last_pulse_on program net) start_at (emitted_at node sent i) q one.emits has,
          ap (λ c. c.safes) one.emitted_at,
        )) some;
  }
