-- Nodes whose wires were all put and taken: one of them can make a pulse, or all are drained. Plan:
-- 1. No port waits. If it did, its payload was put and taken, so the neighbour emitted the acknowledgement, and that was taken here.
-- 2. So each node below the last pulse has said safe.
-- 3. So a node below the last pulse that no neighbour is behind has taken the safe of its pulse at each port, and can make a pulse.
-- 4. A node of least pulse is one of these, or all nodes are at the last pulse, and each has taken Close at each port.
use Rattle.std.proofs.Common.{◌≡◌, ℕ, zero, suc, ◌+◌, ◌<◌, ◌≤◌, ◌⊎◌, inl, inr, Bool, true, false, not, List, [], ◌++◌}
use Rattle.std.proofs.Common.{Option, length, refl, sym, ap, ◌∙◌, append-nil, arith, subst, ⊎_elim}
use Rattle.std.specs.Prelude.{Contains}
use Rattle.std.proofs.lemmas.Bool.{cases_eq, cases_lt, cases_Bool, and_from, eq-eqb, ne_eqb}
use Rattle.interference.specs.Net.{Net, IsNetwork, IsVertex, degree_of, neighbour_of, back_port_of}
use Rattle.node_api.specs.Program.{Program, last_pulse_on}
use Rattle.wires.specs.declared.wire.Wire.{Wire}
use Rattle.wires.specs.declared.wire.Wire.TheVariants.{Close}
use Rattle.wires.specs.Wires.{acks_of, payloads_of, safes_of}
use Rattle.alpha_core.specs.View.{Node, bit, port_at, can_pulse, is_drained}
use Rattle.link_rule.specs.Sent.{sends}
use Rattle.alpha_laws.specs.Fits.{PortFits}
use Rattle.alpha_laws.specs.Simulates.{Simulates, taken_over}
use Rattle.alpha_laws.proofs.Across.{over}
use Rattle.alpha_laws.proofs.Complete.{data-payloads}
use Rattle.alpha_laws.proofs.EachPort.{closed_from, none_from, out_from, safe_from}
use Rattle.alpha_laws.proofs.UpTo.{close-up_to, close_of_data, data-safes, payload-up_to, safes-up_to}

-- a number of least value
pub least : (f : ℕ → ℕ) (n : ℕ) → (n ≡ 0) ⊎ ((m : ℕ) × (1 ≤ m) × (m ≤ n) × ((u : ℕ) → 1 ≤ u → u ≤ n → f m ≤ f u))
least f zero = inl refl
least f (suc n) = ⊎_elim
    (λ (none : n ≡ 0). inr (suc n, omega arith, omega arith, λ u low high. let same : u ≡ suc n = omega arith in rw same (omega arith)))
    (λ (m, low, high, at). inr (⊎_elim
    (λ (less : f (suc n) < f m). (
      suc n,
      omega arith,
      omega arith,
      λ u a b. ⊎_elim
          (λ same. rw same (omega arith))
          (λ ne. omega (arith, at u a (omega arith)))
          (cases_eq u (suc n)),
    ))
    (λ most. (
      m,
      low,
      omega arith,
      λ u a b. ⊎_elim
          (λ same. rw same most)
          (λ ne. at u a (omega arith))
          (cases_eq u (suc n)),
    ))
    (cases_lt (f (suc n)) (f m))))
    (least f n)

module _ {S M E : Type 0} {program : Program S M E} {net : Net} (ok : IsNetwork net) {nodes : ℕ → Node S M} {sent taken : ℕ → ℕ → List (Wire M)}
    (sim : Simulates program net nodes sent taken)
    (put : (v i : ℕ) → IsVertex net v → i < degree_of net v → (port_at (nodes v).view i).out ≡ [])
    (met : (v i : ℕ) → IsVertex net v → i < degree_of net v → taken_over net taken v i ≡ sent v i) where
  abbrev last : ℕ
  last = last_pulse_on program net

  abbrev pulse_of : ℕ → ℕ
  pulse_of v = (nodes v).view.pulse

  -- what a node puts there, and what comes
  abbrev own : ℕ → ℕ → ℕ → Option M
  own v i = sends program net v (neighbour_of net v i)

  abbrev other : ℕ → ℕ → ℕ → Option M
  other v i = sends program net (neighbour_of net v i) v

  fit : (v i : ℕ) → IsVertex net v → i < degree_of net v →
      PortFits last (own v i) (other v i) (pulse_of v) (nodes v).view.said (port_at (nodes v).view i) (sent v i) (taken v i)
  fit v i vertex lt =
      subst (λ l. PortFits last (own v i) (other v i) (pulse_of v) (nodes v).view.said (port_at (nodes v).view i) l (taken v i))
      (ap (λ l. sent v i ++ l) (put v i vertex lt) ∙ append-nil (sent v i))
      ((sim.fits v vertex).ports i lt)

  -- what came is what the neighbour put
  came : (v i : ℕ) → IsVertex net v → i < degree_of net v → taken v i ≡ sent (neighbour_of net v i) (back_port_of net v i)
  came v i vertex lt =
      sym (over net ok taken v i vertex lt) ∙ met (neighbour_of net v i) (back_port_of net v i) (ok.vertices v i vertex lt) (ok.symmetric v i vertex lt)

  -- what the neighbour took is what was put here
  went : (v i : ℕ) → IsVertex net v → i < degree_of net v → taken (neighbour_of net v i) (back_port_of net v i) ≡ sent v i
  went v i vertex lt = met v i vertex lt

  no_waits : (v i : ℕ) → IsVertex net v → i < degree_of net v → (port_at (nodes v).view i).waits ≡ false
  no_waits v i vertex lt =
      let w = neighbour_of net v i in
      let j = back_port_of net v i in
      let here = fit v i vertex lt in
      let there = fit w j (ok.vertices v i vertex lt) (ok.symmetric v i vertex lt) in
      ⊎_elim
      (λ waits.
      let due = here.waits.0 waits in
      let put_here : Contains (payloads_of (sent v i)) (pulse_of v) =
      subst (λ l. Contains l (pulse_of v)) (ap payloads_of (sym here.emitted_stream) ∙ data-payloads (sent v i))
      (payload-up_to last (own v i) (pulse_of v) (nodes v).view.said due.0) in
      let acked : Contains (acks_of (taken v i)) (pulse_of v) =
      subst (λ l. Contains l (pulse_of v))
      (ap payloads_of (sym (went v i vertex lt)) ∙ sym there.acknowledges ∙ ap acks_of (sym (came v i vertex lt))) put_here in
      absurd (due.1 acked))
      (λ none. none)
      (cases_Bool (port_at (nodes v).view i).waits)

  in_ports : (v i : ℕ) → IsVertex net v → i < length (nodes v).view.ports → i < degree_of net v
  in_ports v i vertex lt = let n = (sim.fits v vertex).count in omega arith

  has_said : (v : ℕ) → IsVertex net v → pulse_of v < last → (nodes v).view.said ≡ true
  has_said v vertex lt = (sim.fits v vertex).said.1 (lt, none_from (nodes v).view.ports (λ i below. no_waits v i vertex (in_ports v i vertex below)))

  -- a node that no neighbour is behind has taken their safes
  safe_at : (v i : ℕ) → IsVertex net v → i < degree_of net v → pulse_of v < last → pulse_of v ≤ pulse_of (neighbour_of net v i) →
      (port_at (nodes v).view i).safe ≡ true
  safe_at v i vertex lt before le =
      let w = neighbour_of net v i in
      let j = back_port_of net v i in
      let vertex' = ok.vertices v i vertex lt in
      let here = fit v i vertex lt in
      let there = fit w j vertex' (ok.symmetric v i vertex lt) in
      let port = port_at (nodes v).view i in
      let many : safes_of (taken v i) ≡ pulse_of w + bit (nodes w).view.said =
      ap safes_of (came v i vertex lt) ∙ sym (data-safes (sent w j)) ∙ ap safes_of there.emitted_stream
      ∙ safes-up_to last (own w j) (pulse_of w) (nodes w).view.said in
      let some : pulse_of v + 1 ≤ safes_of (taken v i) = ⊎_elim
      (λ same.
      let said : (nodes w).view.said ≡ true = has_said w vertex' (omega (arith, same)) in
      omega (arith, many, ap bit said))
      (λ ne. omega (arith, many))
      (cases_eq (pulse_of v) (pulse_of w)) in
      marked port.safe port.early_safe refl refl (omega (arith, some, here.taken_safes)) here.early_after_safe
    where
      marked : (a b : Bool) → (port_at (nodes v).view i).safe ≡ a → (port_at (nodes v).view i).early_safe ≡ b
          → 1 ≤ bit (port_at (nodes v).view i).safe + bit (port_at (nodes v).view i).early_safe
          → ((port_at (nodes v).view i).early_safe ≡ true → (port_at (nodes v).view i).safe ≡ true) → (port_at (nodes v).view i).safe ≡ true
      marked true b e f many early = e
      marked false true e f many early = early f
      marked false false e f many early = absurd (omega (arith, ap bit e, ap bit f))

  -- a node that no neighbour is behind can make a pulse, below the last one
  can : (v : ℕ) → IsVertex net v → pulse_of v < last → ((i : ℕ) → i < degree_of net v → pulse_of v ≤ pulse_of (neighbour_of net v i)) →
      can_pulse last (nodes v).view ≡ true
  can v vertex before ahead =
      and_from _ _ (and_from _ _ (and_from _ _ (ap (λ b. not b) (ne_eqb (pulse_of v) last (λ e. omega arith))) (has_said v vertex before))
      (safe_from (nodes v).view.ports (λ i below. safe_at v i vertex (in_ports v i vertex below) before (ahead i (in_ports v i vertex below)))))
      (sim.always_can_take v vertex)

  -- where all are at the last pulse, all are drained
  drained : ((v : ℕ) → IsVertex net v → pulse_of v ≡ last) → (v : ℕ) → IsVertex net v → is_drained last (nodes v).view ≡ true
  drained ended v vertex =
      and_from _ _ (and_from _ _ (eq-eqb (pulse_of v) last (ended v vertex)) (out_from 0 (nodes v).view.ports (λ i below.
      omega (arith, ap (λ l. length l) (put v i vertex (in_ports v i vertex below))))))
      (closed_from (nodes v).view.ports (λ i below.
      let lt = in_ports v i vertex below in
      let w = neighbour_of net v i in
      let j = back_port_of net v i in
      let vertex' = ok.vertices v i vertex lt in
      let there = fit w j vertex' (ok.symmetric v i vertex lt) in
      (fit v i vertex lt).taken_close.0 (subst (λ l. Contains l Close) (sym (came v i vertex lt)) (close_of_data (sent w j)
      (subst (λ l. Contains l Close) (sym there.emitted_stream) (close-up_to last (own w j) (pulse_of w) (nodes w).view.said (ended w vertex')))))))

  -- So some node can pulse, or all are drained.
  pub quiet : ((v : ℕ) × IsVertex net v × (can_pulse last (nodes v).view ≡ true))
      ⊎ ((v : ℕ) → IsVertex net v → is_drained last (nodes v).view ≡ true)
  quiet = ⊎_elim
      (λ none. inr (λ v vertex. absurd (omega (arith, vertex.0, vertex.1))))
      (λ (m, low, high, at). ⊎_elim
      (λ before. inl (
        m,
        (low, high),
        can m (low, high) before (λ i lt.
            let vertex' = ok.vertices m i (low, high) lt in at (neighbour_of net m i) vertex'.0 vertex'.1),
      ))
      (λ ended. inr (drained (λ v vertex. omega (arith, sim.within_last v vertex, at v vertex.0 vertex.1))))
      (cases_lt (pulse_of m) last))
      (least pulse_of (length net.ids))
