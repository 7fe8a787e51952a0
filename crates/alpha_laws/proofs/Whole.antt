-- What nodes that simulate the synchronous run are if the network is whole: at the last pulse, in its last state, and each port has
-- taken Close, so the list of each link is complete. So no port waits, as nothing is sent at the last pulse, and nothing is kept of
-- it or a later one.
use Rattle.std.proofs.Common.{◌≡◌, ℕ, suc, ◌<◌, ◌≤◌, Bool, true, false, List, [], ◌∷◌, ◌++◌}
use Rattle.std.proofs.Common.{Option, Some, None, length, replicate, refl, sym, ap, ◌∙◌, append-nil, arith, subst, ⊎_elim}
use Rattle.std.specs.Prelude.{is_some}
use Rattle.std.proofs.lemmas.Bool.{and_parts, cases_Bool, eqb-true}
use Rattle.std.proofs.lemmas.List.{get_or-replicate, get_or_default, length-replicate, same_lists}
use Rattle.interference.specs.Net.{Net, IsNetwork, IsVertex, degree_of, neighbour_of, back_port_of}
use Rattle.interference.proofs.Neighbours.{at-back_port}
use Rattle.node_api.specs.Program.{Program, last_pulse_on}
use Rattle.node_api.specs.Run.{state_at, last_state}
use Rattle.wires.specs.declared.wire.Wire.{Wire}
use Rattle.wires.specs.Wires.{safes_of}
use Rattle.alpha_core.specs.View.{Node, Port, bit, new_port, port_at}
use Rattle.link_rule.specs.Sent.{sends}
use Rattle.alpha_laws.specs.Simulates.{Simulates, IsCompleteOn, taken_over}
use Rattle.alpha_laws.specs.Progress.{HasEnded, IsWhole, Splits, end_node, end_port}
use Rattle.alpha_laws.proofs.EachPort.{closed_at, out_at}
use Rattle.alpha_laws.proofs.Runs.{Runs}
use Rattle.alpha_laws.proofs.UpTo.{data-safes, none_late, safes-stream}

no_bit : (b : Bool) → bit b ≤ 0 → b ≡ false
no_bit true le = absurd (omega arith)
no_bit false le = refl

no_wire : {X : Type 0} (l : List X) → length l ≤ 0 → l ≡ []
no_wire [] le = refl
no_wire (x ∷ xs) le = absurd (omega arith)

absent : {M : Type 0} (o : Option M) → o ≡ None → is_some o ≡ true → ⊥
absent None e f = absurd cc
absent (Some x) e f = absurd cc

-- a port by its fields
made : {M : Type 0} → Bool → Bool → Bool → Option M → Option M → Bool → List (Wire M) → Port M
made waits safe early_safe present early closed out = record {
  waits = waits;
  safe = safe;
  early_safe = early_safe;
  present = present;
  early = early;
  closed = closed;
  out = out;
}

port_is : {M : Type 0} (port : Port M) → port.waits ≡ false → port.safe ≡ false → port.early_safe ≡ false → port.present ≡ None → port.early ≡ None
    → port.closed ≡ true → port.out ≡ [] → port ≡ end_port
unfolding made
port_is port a b c d e f g =
    ap (λ x. made x port.safe port.early_safe port.present port.early port.closed port.out) a
    ∙ ap (λ x. made false x port.early_safe port.present port.early port.closed port.out) b
    ∙ ap (λ x. made false false x port.present port.early port.closed port.out) c
    ∙ ap (λ x. made false false false x port.early port.closed port.out) d
    ∙ ap (λ x. made false false false None x port.closed port.out) e
    ∙ ap (λ x. made false false false None None x port.out) f
    ∙ ap (λ x. made false false false None None true x) g

module _ {S M E : Type 0} {program : Program S M E} {net : Net} (ok : IsNetwork net) {nodes : ℕ → Node S M} {sent taken held : ℕ → ℕ → List (Wire M)}
    (sim : Simulates program net nodes sent taken) (splits : Splits net sent taken held) (whole : IsWhole program net nodes held) where
  abbrev last : ℕ
  last = last_pulse_on program net

  pub ended : (v : ℕ) → IsVertex net v → (nodes v).view.pulse ≡ last
  ended v vertex = eqb-true (nodes v).view.pulse last (and_parts _ _ (and_parts _ _ (whole.drained v vertex)).0).0

  inside : (v i : ℕ) → IsVertex net v → i < degree_of net v → i < length (nodes v).view.ports
  inside v i vertex lt = omega (arith, (sim.fits v vertex).count, lt)

  pub all_taken : (v i : ℕ) → IsVertex net v → i < degree_of net v → taken_over net taken v i ≡ sent v i
  all_taken v i vertex lt =
      sym (append-nil (taken_over net taken v i)) ∙ ap (λ l. taken_over net taken v i ++ l) (sym (whole.empty v i vertex lt)) ∙ splits v i vertex lt

  -- each port has taken Close
  came : (v i : ℕ) → IsVertex net v → i < degree_of net v → IsCompleteOn program net (neighbour_of net v i) v (taken v i)
  came v i vertex lt =
      let closed : (port_at (nodes v).view i).closed ≡ true =
      closed_at (nodes v).view.ports i (and_parts _ _ (whole.drained v vertex)).1 (inside v i vertex lt) in
      sim.all_before_close v i vertex lt (((sim.fits v vertex).ports i lt).taken_close.1 closed)

  pub complete : (v i : ℕ) → IsVertex net v → i < degree_of net v → IsCompleteOn program net v (neighbour_of net v i) (sent v i)
  complete v i vertex lt =
      let w = neighbour_of net v i in
      let j = back_port_of net v i in
      subst (λ l. IsCompleteOn program net v w l) (all_taken v i vertex lt)
      (subst (λ u. IsCompleteOn program net u w (taken w j)) (at-back_port net ok v i vertex lt)
      (came w j (ok.vertices v i vertex lt) (ok.symmetric v i vertex lt)))

  module _ (runs : Runs program net) where
    port_ends : (v i : ℕ) → IsVertex net v → i < degree_of net v → port_at (nodes v).view i ≡ end_port
    port_ends v i vertex lt =
        let w = neighbour_of net v i in
        let view = (nodes v).view in
        let port = port_at view i in
        let fit = (sim.fits v vertex).ports i lt in
        let end = ended v vertex in
        let came_all = (came v i vertex lt).0 in
        let safes : safes_of (taken v i) ≡ last =
        sym (data-safes (taken v i)) ∙ ap (λ l. safes_of l) came_all ∙ safes-stream (sends program net w v) last in
        let none : port.waits ≡ false = ⊎_elim
        (λ waits. absurd (absent _ (ap (λ p. sends program net v w p) end ∙ runs.silent v w vertex) (fit.waits.0 waits).0))
        (λ quiet. quiet)
        (cases_Bool port.waits) in
        port_is port none
        (no_bit port.safe (omega (arith, fit.taken_safes, safes, end)))
        (no_bit port.early_safe (omega (arith, fit.taken_safes, safes, end)))
        (sym fit.taken_present ∙ none_late (sends program net w v) last view.pulse (taken v i) came_all (omega (arith, end)))
        (sym fit.taken_early ∙ none_late (sends program net w v) last (suc view.pulse) (taken v i) came_all (omega (arith, end)))
        (closed_at view.ports i (and_parts _ _ (whole.drained v vertex)).1 (inside v i vertex lt))
        (no_wire port.out (out_at 0 view.ports i (and_parts _ _ (and_parts _ _ (whole.drained v vertex)).0).1 (inside v i vertex lt)))

    node_ends : (v : ℕ) → IsVertex net v → nodes v ≡ end_node program net v
    node_ends v vertex =
        let node = nodes v in
        let fits = sim.fits v vertex in
        let end = ended v vertex in
        let unsaid : node.view.said ≡ false = ⊎_elim
        (λ said. let lt = (fits.said.0 said).0 in absurd (omega (arith, end, lt)))
        (λ no. no)
        (cases_Bool node.view.said) in
        let ports : node.view.ports ≡ replicate (degree_of net v) end_port =
        same_lists node.view.ports (replicate (degree_of net v) end_port) (fits.count ∙ sym (length-replicate (degree_of net v) end_port)) (λ k d lt.
        get_or_default node.view.ports k d new_port lt
        ∙ port_ends v k vertex (omega (arith, fits.count, lt))
        ∙ sym (get_or-replicate (degree_of net v) k end_port d (omega (arith, fits.count, lt)))) in
        ap (λ s. record { state = s; view = node.view }) (fits.state ∙ ap (λ p. state_at program net p v) end)
        ∙ ap (λ p. record { state = last_state program net v; view = record { pulse = p; said = node.view.said; ports = node.view.ports } }) end
        ∙ ap (λ b. record { state = last_state program net v; view = record { pulse = last; said = b; ports = node.view.ports } }) unsaid
        ∙ ap (λ l. record { state = last_state program net v; view = record { pulse = last; said = false; ports = l } }) ports

    pub has_ended : HasEnded program net nodes sent
    has_ended = record { nodes_are = node_ends; lists = complete }
