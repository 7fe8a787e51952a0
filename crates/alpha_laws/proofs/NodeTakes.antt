-- A node keeps all its links as it puts and as it takes.
use Rattle.std.proofs.Common.{◌≡◌, ℕ, ◌<◌, true, false, not, ◌&&◌, List, [], ◌∷◌, ◌++◌, drop, refl, sym, ap, ◌∙◌, append_assoc, subst, ⊎_elim}
use Rattle.std.specs.Prelude.{nat_eq}
use Rattle.std.proofs.lemmas.Bool.{cases_Bool, and_parts, false_from_ne_true}
use Rattle.interference.specs.Net.{Net, degree_of, neighbour_of}
use Rattle.node_api.specs.Program.{Program, last_pulse_on}
use Rattle.node_api.specs.Run.{state_at}
use Rattle.wires.specs.declared.wire.Wire.{Wire}
use Rattle.wires.specs.declared.wire.Wire.TheVariants.{Payload, Ack, Safe, Close}
use Rattle.alpha_core.specs.View.{Port, Node, new_port, port_at, set_port}
use Rattle.alpha_core.specs.Table.{is_due}
use Rattle.alpha_core.specs.Alpha.{takes, put_done, reacts}
use Rattle.link_rule.specs.Sent.{sends}
use Rattle.alpha_laws.proofs.NodeKept.{kept_out, inside, settles_kept, settles_speaks, settles_pulse, port_changes, none_waits-set}
use Rattle.alpha_laws.proofs.TakesDue.{takes_kept}
use Rattle.alpha_laws.specs.Position.{Allows}
use Rattle.alpha_laws.specs.Kept.{taken_to, KeptAt, PortsKept, NodeKept}

module _ {S M E : Type 0} {program : Program S M E} {net : Net} {v : ℕ} {node : Node S M} {sent taken : ℕ →
    List (Wire M)} (kept : NodeKept program net v node sent taken) where
  -- the oldest wire of a port is put
  pub puts_kept : (i : ℕ) (w : Wire M) (ws : List (Wire M)) (sent' taken' : ℕ → List (Wire M)) → i < degree_of net v → (port_at node.view i).out ≡ w ∷ ws
      → ((j : ℕ) → (j ≡ i → ⊥) → sent j ≡ sent' j) → sent' i ≡ sent i ++ (w ∷ []) → ((j : ℕ) → taken j ≡ taken' j)
      → NodeKept program net v record { state = node.state; view = put_done node.view i } sent' taken'
  puts_kept i w ws sent' taken' lt is others more same =
      let port = port_at node.view i in
      let left = drop 1 port.out in
      let whole : sent i ++ port.out ≡ sent' i ++ left = ap (λ l. sent i ++ l) (is ∙ ap (λ l. w ∷ drop 1 l) (sym is)) ∙
      sym (append_assoc (sent i) (w ∷ []) left) ∙ ap (λ l. l ++ left) (sym more) in
      record {
        ports = port_changes kept.ports i record port { out = left } sent' taken' lt (λ j lt' ne. (others j ne, same j))
            (subst (λ l. KeptAt program net v i node.view.pulse node.view.said (record port { out = left }) (sent' i ++ left) l) (same i)
            (kept_out left (sent' i ++ left) whole (kept.ports.each i lt)));
        spoken = λ below none. kept.spoken below (sym (none_waits-set node.view.ports i record port { out = left } new_port (inside kept.ports i lt) refl) ∙
            none);
        state = kept.state;
      }

  -- a wire that is due is taken
  pub takes_node : (i : ℕ) (w : Wire M) (sent' taken' : ℕ → List (Wire M)) → i < degree_of net v →
      is_due (last_pulse_on program net) node.view.pulse node.view.said (port_at node.view i) w ≡ true
      → Allows (sends program net (neighbour_of net v i) v) (last_pulse_on program net) (taken_to node.view.pulse (port_at node.view i)) w
      → ((j : ℕ) → sent j ≡ sent' j) → ((j : ℕ) → j < degree_of net v → (j ≡ i → ⊥) → taken j ≡ taken' j) → taken' i ≡ taken i ++ (w ∷ [])
      → NodeKept program net v record { state = node.state; view = reacts (last_pulse_on program net) node.view i w } sent' taken'
  takes_node i w sent' taken' lt due allowed same others more = by_kind w changed due
    where
      changed : PortsKept program net v (set_port node.view i (takes node.view.pulse (port_at node.view i) w)) sent' taken'
      changed = port_changes kept.ports i (takes node.view.pulse (port_at node.view i) w) sent' taken' lt (λ j lt' ne. (same j, others j lt' ne))
          (subst (λ l. KeptAt program net v i node.view.pulse node.view.said (takes node.view.pulse (port_at node.view i) w) (l
          ++ (takes node.view.pulse (port_at node.view i) w).out) (taken' i)) (same i)
          (subst (λ l. KeptAt program net v i node.view.pulse node.view.said (takes node.view.pulse (port_at node.view i) w) (sent i
          ++ (takes node.view.pulse (port_at node.view i) w).out) l) (sym more)
          (takes_kept (sent i) (kept.ports.each i lt) w due allowed)))

      plain : (port : Port M) → port.waits ≡ (port_at node.view i).waits → PortsKept program net v (set_port node.view i port) sent' taken'
          → NodeKept program net v record { state = node.state; view = set_port node.view i port } sent' taken'
      plain port flag ports = record {
        ports = ports;
        spoken = λ below none. kept.spoken below (sym (none_waits-set node.view.ports i port new_port (inside kept.ports i lt) flag) ∙ none);
        state = kept.state;
      }

      by_kind : (u : Wire M) → PortsKept program net v (set_port node.view i (takes node.view.pulse (port_at node.view i) u)) sent' taken' →
          is_due (last_pulse_on program net) node.view.pulse node.view.said (port_at node.view i) u ≡ true
          → NodeKept program net v record { state = node.state; view = reacts (last_pulse_on program net) node.view i u } sent' taken'
      by_kind (Payload q x) ports due = plain _ (flag_payload node.view.pulse (port_at node.view i) q x) ports
        where
          flag_payload : (p : ℕ) (port : Port M) (q : ℕ) (x : M) → (takes p port (Payload q x)).waits ≡ port.waits
          flag_payload p port q x = ⊎_elim (λ e. rw e refl) (λ e. rw e refl) (cases_Bool (nat_eq q p))
      by_kind (Ack q) ports due =
          let three = and_parts (not (port_at node.view i).closed && nat_eq q node.view.pulse) (port_at node.view i).waits due in
          let unsaid : node.view.said ≡ false = false_from_ne_true node.view.said (λ e. let quiet : (port_at node.view i).waits ≡ false =
          (kept.ports.each i lt).quiet e in let waits : (port_at node.view i).waits ≡ true = three.1 in cc) in
          record {
            ports = settles_kept ports unsaid;
            spoken = settles_speaks ports;
            state = kept.state ∙ ap (λ p. (state_at program net p v)) (sym (settles_pulse ports));
          }
      by_kind (Safe q) ports due = plain _ (flag_safe node.view.pulse (port_at node.view i) q) ports
        where
          flag_safe : (p : ℕ) (port : Port M) (q : ℕ) → (takes {M = M} p port (Safe q)).waits ≡ port.waits
          flag_safe p port q = ⊎_elim (λ e. rw e refl) (λ e. rw e refl) (cases_Bool (nat_eq q p))
      by_kind Close ports due = plain _ refl ports
