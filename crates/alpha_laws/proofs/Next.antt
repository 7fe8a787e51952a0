-- No node refuses the next wire of a link, nor its program the next pulse.
use Rattle.std.proofs.Common.{◌≡◌, ℕ, suc, ◌<◌, true, List, ◌∷◌, ◌++◌, Ok, map, sym, ap, ◌∙◌}
use Rattle.interference.specs.Net.{Net, IsNetwork, IsVertex, degree_of, neighbour_of, back_port_of}
use Rattle.node_api.specs.Program.{Program, last_pulse_on}
use Rattle.node_api.specs.Run.{outbox_at, state_at}
use Rattle.wires.specs.declared.wire.Wire.{Wire}
use Rattle.alpha_core.specs.View.{Node, port_at, can_pulse, inbox_of}
use Rattle.alpha_laws.proofs.Runs.{Runs}
use Rattle.alpha_laws.specs.Kept.{AllKept}
use Rattle.std.proofs.lemmas.List.{append_cancel_left}
use Rattle.alpha_core.specs.Alpha.{reaction, reacts, unless_refused, pulse, pulsed, entering, advances}
use Rattle.alpha_core.proofs.Due.{due-taken}
use Rattle.alpha_laws.specs.Simulates.{sent_to}
use Rattle.alpha_laws.proofs.Across.{over, due_at}
use Rattle.alpha_laws.proofs.NodePulses.{inbox_is, can_below}

module _ {S M E : Type 0} {program : Program S M E} {net : Net} (ok : IsNetwork net) (runs : Runs program net) {nodes : ℕ → Node S M} {sent taken held : ℕ →
    ℕ → List (Wire M)} (kept : AllKept program net nodes sent taken held) where
  -- the next wire of a link isn't refused
  pub next_reacts : (v i : ℕ) (vertex : IsVertex net v) (lt : i < degree_of net v) (w : Wire M) (more : List (Wire M)) →
      sent_to net sent v i ≡ taken v i ++ (w ∷ more)
      → reaction (last_pulse_on program net) (nodes v).view i w ≡ Ok (reacts (last_pulse_on program net) (nodes v).view i w)
  next_reacts v i vertex lt w more is =
      let last = last_pulse_on program net in
      let other = neighbour_of net v i in
      let back = back_port_of net v i in
      let view = (nodes v).view in
      let holds : held other back ≡ w ∷ more = append_cancel_left (taken v i) _ _
      (ap (λ l. l ++ held other back) (sym (over net ok taken v i vertex lt)) ∙
      kept.splits other back (ok.vertices v i vertex lt) (ok.symmetric v i vertex lt) ∙ is) in
      let due = due_at ok kept v i vertex lt w _ (ap (λ l. l ++ (port_at (nodes other).view back).out) holds) in
      ap (λ r. unless_refused r (reacts last view i w)) (due-taken last view.pulse view.said (port_at view i) w due)

  -- a pulse that can be made isn't refused
  pub next_pulse : (v : ℕ) (vertex : IsVertex net v) → can_pulse (last_pulse_on program net) (nodes v).view ≡ true
      → pulse program.next (last_pulse_on program net) (nodes v) ≡ Ok record {
        state = state_at program net (suc (nodes v).view.pulse) v;
        view = entering (last_pulse_on program net) (suc (nodes v).view.pulse) (outbox_at program net (suc (nodes v).view.pulse) v)
            (map (λ port. advances port) (nodes v).view.ports);
      }
  next_pulse v vertex can =
      let view = (nodes v).view in
      let node = kept.each v vertex in
      let low = can_below node can in
      ap (λ r. pulsed (last_pulse_on program net) (nodes v) r)
      (ap (λ s. program.next s (suc view.pulse) (inbox_of view)) node.state
      ∙ ap (λ l. program.next (state_at program net view.pulse v) (suc view.pulse) l) (inbox_is node low.1)
      ∙ runs.accepted view.pulse v vertex low.0)
