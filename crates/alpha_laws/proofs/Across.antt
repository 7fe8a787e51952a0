-- A link seen from both of its ends, where the nodes keep their links.
use Rattle.std.proofs.Common.{◌≡◌, ℕ, ◌+◌, ◌<◌, ◌≤◌, true, List, ◌∷◌, ◌++◌, length, sym, ap, ◌∙◌, append_assoc, arith, subst}
use Rattle.interference.specs.Net.{Net, IsNetwork, IsVertex, degree_of, neighbour_of, back_port_of}
use Rattle.interference.proofs.Neighbours.{at-back_port, back-of-back_port}
use Rattle.node_api.specs.Program.{Program, last_pulse_on}
use Rattle.wires.specs.declared.wire.Wire.{Wire}
use Rattle.alpha_core.specs.View.{Node, port_at}
use Rattle.alpha_core.specs.Table.{is_due}
use Rattle.link_rule.specs.Sent.{sends}
use Rattle.alpha_laws.specs.Simulates.{taken_over, emitted_at}
use Rattle.alpha_laws.proofs.Runs.{Runs}
use Rattle.alpha_laws.proofs.Edge as edge
use Rattle.alpha_laws.proofs.NextWire as next_wire
use Rattle.alpha_laws.specs.Position.{Allows}
use Rattle.alpha_laws.specs.Kept.{taken_to, PortKept, AllKept}

-- what stands at the other end of the other end stands here
pub over : {X : Type 0} (net : Net) → IsNetwork net → (f : ℕ → ℕ → X) (v i : ℕ) → IsVertex net v → i < degree_of net v
    → f (neighbour_of net (neighbour_of net v i) (back_port_of net v i)) (back_port_of net (neighbour_of net v i) (back_port_of net v i)) ≡ f v i
over net ok f v i vertex lt =
    ap (λ u. f u (back_port_of net (neighbour_of net v i) (back_port_of net v i))) (at-back_port net ok v i vertex lt) ∙
    ap (f v) (back-of-back_port net ok v i vertex lt)

module _ {S M E : Type 0} {program : Program S M E} {net : Net} (ok : IsNetwork net) {nodes : ℕ → Node S M} {sent taken held : ℕ → ℕ →
    List (Wire M)} (kept : AllKept program net nodes sent taken held)
    (v i : ℕ) (vertex : IsVertex net v) (lt : i < degree_of net v) where
  abbrev other : ℕ
  other = neighbour_of net v i

  abbrev back : ℕ
  back = back_port_of net v i

  pub mine : PortKept (last_pulse_on program net) (sends program net v (neighbour_of net v i)) (sends program net (neighbour_of net v i) v) (nodes v).view.pulse
      (nodes v).view.said
      (port_at (nodes v).view i) (emitted_at (nodes v) (sent v) i) (taken v i)
  mine = (kept.each v vertex).ports.each i lt

  pub theirs : PortKept (last_pulse_on program net) (sends program net (neighbour_of net v i) v) (sends program net v (neighbour_of net v i))
      (nodes (neighbour_of net v i)).view.pulse (nodes (neighbour_of net v i)).view.said
      (port_at (nodes (neighbour_of net v i)).view (back_port_of net v i)) (emitted_at (nodes (neighbour_of net v i)) (sent (neighbour_of net v i))
      (back_port_of net v i)) (taken_over net taken v i)
  theirs = subst
      (λ u. PortKept (last_pulse_on program net) (sends program net other u) (sends program net u other) (nodes other).view.pulse (nodes other).view.said
      (port_at (nodes other).view back) (emitted_at (nodes other) (sent other) back) (taken other back))
      (at-back_port net ok v i vertex lt)
      ((kept.each other (ok.vertices v i vertex lt)).ports.each back (ok.symmetric v i vertex lt))

  -- what is emitted here and not taken there, and the other way
  abbrev pub flight : List (Wire M)
  flight = held v i ++ (port_at (nodes v).view i).out

  abbrev pub flight' : List (Wire M)
  flight' = held (neighbour_of net v i) (back_port_of net v i) ++ (port_at (nodes (neighbour_of net v i)).view (back_port_of net v i)).out

  pub whole : taken_over net taken v i ++ flight ≡ emitted_at (nodes v) (sent v) i
  whole = sym (append_assoc (taken_over net taken v i) (held v i) (port_at (nodes v).view i).out) ∙
      ap (λ l. l ++ (port_at (nodes v).view i).out) (kept.splits v i vertex lt)

  pub whole' : taken v i ++ flight' ≡ emitted_at (nodes (neighbour_of net v i)) (sent (neighbour_of net v i)) (back_port_of net v i)
  whole' = sym (append_assoc (taken v i) (held other back) (port_at (nodes other).view back).out)
      ∙ ap (λ l. l ++ (port_at (nodes other).view back).out) (ap (λ l. l ++ held other back) (sym (over net ok taken v i vertex lt)) ∙
      kept.splits other back (ok.vertices v i vertex lt) (ok.symmetric v i vertex lt))

  pub near_at : (nodes v).view.pulse ≤ (nodes (neighbour_of net v i)).view.pulse + 1
  near_at = omega (arith, (edge.apart mine theirs _ _ whole whole').0)

  pub two_in_flight : Runs program net → length flight ≤ 2
  two_in_flight runs = edge.at_most_two mine theirs _ _ whole whole' (runs.silent v (neighbour_of net v i) vertex)

  -- the next wire that comes is due, and may come
  pub due_at : (w : Wire M) (more : List (Wire M)) → flight' ≡ w ∷ more →
      is_due (last_pulse_on program net) (nodes v).view.pulse (nodes v).view.said (port_at (nodes v).view i) w ≡ true
  due_at w more next = next_wire.due theirs mine _ _ whole' whole w more next

  pub allowed_at : (w : Wire M) (more : List (Wire M)) → flight' ≡ w ∷ more →
      Allows (sends program net (neighbour_of net v i) v) (last_pulse_on program net) (taken_to (nodes v).view.pulse (port_at (nodes v).view i)) w
  allowed_at w more next = next_wire.allowed theirs mine _ _ whole' whole w more next
