-- A node at pulse 0 that keeps links on which nothing was put is drained exactly if that is the last pulse and it has no port: Close was taken
-- at none, and a drained node has taken it at all.
use Rattle.std.proofs.Common.{◌≡◌, ℕ, ◌<◌, List, [], ◌∷◌, length, refl, sym, ap, ◌∙◌, arith}
use Rattle.std.specs.Prelude.{true, false}
use Rattle.std.proofs.lemmas.Bool.{and_from, and_parts, eq-eqb, eqb-true}
use Rattle.interference.specs.Net.{Net, degree_of}
use Rattle.node_api.specs.Program.{Program, last_pulse_on}
use Rattle.alpha_core.specs.View.{Node, Port, all_closed, all_out_within, is_drained, port_in}
use Rattle.alpha_laws.specs.Kept.{NodeKept}
use Rattle.alpha_laws.specs.Position.{Position}

-- if all ports are closed and none is, there is none
no_port : {M : Type 0} (ports : List (Port M)) → ((i : ℕ) → i < length ports → (port_in ports i).closed ≡ false) → all_closed ports ≡ true
    → length ports ≡ 0
no_port [] each closed = refl
no_port (port ∷ ports) each closed =
    let here : port.closed ≡ false = each 0 (omega arith) in
    let there : port.closed ≡ true = (and_parts _ _ closed).0 in
    absurd cc

-- without ports nothing is left at them
none_left : {M : Type 0} (ports : List (Port M)) → length ports ≡ 0 → (all_out_within 0 ports ≡ true) × (all_closed ports ≡ true)
none_left [] none = (refl, refl)
none_left (port ∷ ports) none = absurd (omega arith)

module _ {S M E : Type 0} (program : Program S M E) (net : Net) (v : ℕ) (node : Node S M) (kept : NodeKept program net v node (λ i. []) (λ i. []))
    (pulse : node.view.pulse ≡ 0) where
  not_closed : (i : ℕ) → i < length node.view.ports → (port_in node.view.ports i).closed ≡ false
  not_closed i lt = sym (ap (λ (c : Position). c.closed) (kept.ports.each i (omega (arith, lt, kept.ports.count))).taken_at)

  pub bare_if : is_drained (last_pulse_on program net) node.view ≡ true → (last_pulse_on program net ≡ 0) × (degree_of net v ≡ 0)
  bare_if is =
      let parts = and_parts _ _ is in
      let halted = eqb-true node.view.pulse (last_pulse_on program net) (and_parts _ _ parts.0).0 in
      (sym halted ∙ pulse, sym kept.ports.count ∙ no_port node.view.ports not_closed parts.1)

  pub drained_if : (last_pulse_on program net ≡ 0) × (degree_of net v ≡ 0) → is_drained (last_pulse_on program net) node.view ≡ true
  drained_if (none, bare) =
      let left = none_left node.view.ports (kept.ports.count ∙ bare) in
      and_from _ _ (and_from _ _ (eq-eqb node.view.pulse (last_pulse_on program net) (pulse ∙ sym none)) left.0) left.1
