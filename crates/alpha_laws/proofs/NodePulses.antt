-- A node keeps all its links as it starts and as it makes its next pulse.
use Rattle.std.proofs.Common.{◌≡◌, ℕ, suc, ◌<◌, ◌≤◌, true, false, not, List, [], ◌++◌, map, Option, None, length, get_or, replicate, refl, sym, ap, ◌∙◌}
use Rattle.std.proofs.Common.{append_assoc, arith, subst, ⊎_elim, eq-eqb}
use Rattle.std.specs.Prelude.{nat_eq}
use Rattle.std.proofs.lemmas.Bool.{cases_eq, and_parts}
use Rattle.std.proofs.lemmas.List.{get_or-map, length-map, same_lists, get_or-replicate, length-replicate}
use Rattle.interference.specs.Net.{Net, IsVertex, degree_of, neighbours, neighbour_of, port_to}
use Rattle.node_api.specs.Boxes.{at_port}
use Rattle.node_api.specs.Run.{node_at, inbox_at, state_at, outbox_at}
use Rattle.node_api.proofs.Runs.{node_at-none}
use Rattle.node_api.specs.Program.{own_of, Program, last_pulse_on}
use Rattle.wires.specs.declared.wire.Wire.{Wire}
use Rattle.alpha_core.specs.View.{Port, Node, all_safe, new_port, can_pulse, port_at, inbox_of}
use Rattle.alpha_core.specs.Alpha.{advances, entry, enters, enter_all, entering, started}
use Rattle.link_rule.specs.Sent.{sends}
use Rattle.alpha_laws.proofs.Runs.{Runs}
use Rattle.alpha_laws.proofs.NodeKept.{kept_out, inside, settles_kept, settles_speaks, settles_pulse}
use Rattle.alpha_core.proofs.PortLists.{enter_all-length, enter_all-at}
use Rattle.alpha_laws.proofs.PortFlags.{safe_at}
use Rattle.alpha_laws.proofs.Passed.{at-passed}
use Rattle.alpha_laws.proofs.Emits.{starts, pulses_on}
use Rattle.alpha_laws.specs.Position.{start_at}
use Rattle.alpha_laws.specs.Kept.{KeptAt, PortsKept, NodeKept}

module _ {S M E : Type 0} {program : Program S M E} {net : Net} {v : ℕ} {node : Node S M} {sent taken : ℕ →
    List (Wire M)} (kept : NodeKept program net v node sent taken) where
  -- at a pulse that can be made the payloads taken are the synchronous inbox
  pub inbox_is : all_safe node.view.ports ≡ true → inbox_of node.view ≡ inbox_at program net (suc node.view.pulse) v
  inbox_is safe = same_lists _ _ (length-map node.view.ports _ ∙ kept.ports.count ∙ sym (length-map (neighbours net v) _)) (λ k d lt.
      let lt' : k < length node.view.ports = omega (arith, length-map node.view.ports (λ (port : Port M). port.present)) in
      let lt'' : k < degree_of net v = omega (arith, kept.ports.count) in
      let one = kept.ports.each k lt'' in
      get_or-map (λ port. port.present) node.view.ports k new_port d lt' ∙ one.present
      ∙ at-passed _ (last_pulse_on program net) node.view.pulse start_at (taken k) one.takes (omega arith)
      (rw one.taken_at (rw (safe_at node.view.ports k new_port safe lt') (omega arith)))
      ∙ sym (get_or-map (λ w. at_port (outbox_at program net node.view.pulse w) (port_to net w v)) (neighbours net v) k 0 d lt''))

  -- below the last pulse, where a pulse can be made
  pub can_below : can_pulse (last_pulse_on program net) node.view ≡ true → (node.view.pulse < last_pulse_on program net) × (all_safe node.view.ports ≡ true)
  can_below can =
      let all = and_parts _ _ (and_parts _ _ can).0 in
      (less kept.ports.within (and_parts _ _ all.0).0, all.1)
    where
      less : {p last : ℕ} → p ≤ last → not (nat_eq p last) ≡ true → p < last
      less {p} {last} le e = ⊎_elim (λ same. let is : nat_eq p last ≡ true = eq-eqb p last same in let isnt : not (nat_eq p last) ≡ false =
          ap (λ b. not b) is in absurd cc) (λ ne. omega arith) (cases_eq p last)

  -- the next pulse
  pub pulse_node : Runs program net → IsVertex net v → can_pulse (last_pulse_on program net) node.view ≡ true
      → NodeKept program net v record {
        state = (state_at program net (suc node.view.pulse) v);
        view = entering (last_pulse_on program net) (suc node.view.pulse) (outbox_at program net (suc node.view.pulse) v)
            (map (λ port. advances port) node.view.ports);
      } sent taken
  pulse_node runs vertex can =
      let last = last_pulse_on program net in
      let next = suc node.view.pulse in
      let out = (outbox_at program net next v) in
      let all = and_parts _ _ (and_parts _ _ can).0 in
      let said : node.view.said ≡ true = (and_parts _ _ all.0).1 in
      let below : node.view.pulse < last = (can_below can).0 in
      let entered : PortsKept program net v record {
        pulse = suc node.view.pulse;
        said = false;
        ports =
            enter_all last next out (map (λ port. advances port) node.view.ports);
      } sent taken = record {
        count = enter_all-length _ _ _ _ ∙ length-map node.view.ports _ ∙ kept.ports.count;
        within = let lt = below in omega arith;
        before_last = λ e. cc;
        each = λ i lt.
            let place = enter_all-at last next out (map (λ port. advances port) node.view.ports) i new_port
            (omega (arith, length-map node.view.ports (λ (port : Port M). advances port), kept.ports.count, lt)) in
            let old = get_or-map (λ port. advances port) node.view.ports i new_port new_port (inside kept.ports i lt) in
            let sent' = sends program net v (neighbour_of net v i) next in
            subst (λ x. KeptAt program net v i next false x (sent i ++ x.out) (taken i))
            (sym (place ∙ ap (λ port. enters last next (get_or out i None) port) old ∙
            ap (λ o. enters last next o (advances (port_at node.view i))) (runs.ports v i next vertex lt)))
            (kept_out ((port_at node.view i).out ++ entry last next sent') _ (append_assoc (sent i) (port_at node.view i).out (entry last next sent'))
            (pulses_on (kept.ports.each i lt) (runs.silent v (neighbour_of net v i) vertex) said
            (safe_at node.view.ports i new_port all.1 (inside kept.ports i lt))));
      } in
      record {
        ports = settles_kept entered refl;
        spoken = settles_speaks entered;
        state = ap (λ p. (state_at program net p v)) (sym (settles_pulse entered));
      }

-- a node at the start
pub start_kept : {S M E : Type 0} (program : Program S M E) (net : Net) (v : ℕ) → Runs program net → IsVertex net v
    → NodeKept program net v (started (last_pulse_on program net) (degree_of net v) (program.greet (program.made (own_of net v)))) (λ i. []) (λ i. [])
start_kept {S} {M} program net v runs vertex =
    subst (λ turn. NodeKept program net v (started (last_pulse_on program net) (degree_of net v) turn) (λ i. []) (λ i. [])) (node_at-none program net v) begun
  where
    ports : List (Port M)
    ports = replicate (degree_of net v) new_port

    out : List (Option M)
    out = (outbox_at program net 0 v)

    entered : PortsKept program net v record { pulse = 0; said = false; ports = enter_all (last_pulse_on program net) 0 out ports } (λ i. []) (λ i. [])
    entered = record {
      count = enter_all-length (last_pulse_on program net) 0 out ports ∙ length-replicate (degree_of net v) new_port;
      within = omega arith;
      before_last = λ e. cc;
      each = λ i lt.
          let place = enter_all-at (last_pulse_on program net) 0 out ports i new_port (omega (
            arith,
            length-replicate (degree_of net v) (new_port {M = M}),
            lt,
          )) in
          let old : get_or ports i new_port ≡ new_port = get_or-replicate (degree_of net v) i new_port new_port lt in
          subst (λ x. KeptAt program net v i 0 false x x.out [])
          (sym (place ∙ ap (λ port. enters (last_pulse_on program net) 0 (get_or out i None) port) old ∙
          ap (λ o. enters (last_pulse_on program net) 0 o new_port) (runs.ports v i 0 vertex lt)))
          (starts (last_pulse_on program net) (sends program net v (neighbour_of net v i)) (sends program net (neighbour_of net v i) v)
          (runs.silent v (neighbour_of net v i) vertex));
    }

    begun : NodeKept program net v (started (last_pulse_on program net) (degree_of net v) (node_at program net 0 v)) (λ i. []) (λ i. [])
    begun = record {
      ports = settles_kept entered refl;
      spoken = settles_speaks entered;
      state = ap (λ p. (state_at program net p v)) (sym (settles_pulse entered));
    }
