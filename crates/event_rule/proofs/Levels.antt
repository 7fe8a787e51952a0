-- Levels of a run: no wire waits in an out-list, and every node is at pulse m or past it. Then what a node emitted it has
-- put, so that the lists of its links have its payload of m, and as many safes as its pulse and its word say. A lap of
-- thorough turns leaves the level that there was.
use Rattle.std.proofs.Common.{◌≡◌, ⊎_elim, ℕ, ◌+◌, ◌<◌, ◌≤◌, false, List, [], ◌∷◌, ◌++◌, refl, sym, ap, ◌∙◌, append-nil, arith, subst, Bool}
use Rattle.std.proofs.Common.{true, Option}
use Rattle.std.specs.Prelude.{Contains, is_some}
use Rattle.std.proofs.lemmas.Bool.{cases_eq}
use Rattle.interference.specs.Net.{Net, IsNetwork, IsVertex, degree_of, neighbour_of}
use Rattle.node_api.specs.Program.{Program, last_pulse_on}
use Rattle.wires.specs.declared.wire.Wire.{Wire}
use Rattle.wires.specs.Streams.{sent_pulses}
use Rattle.alpha_core.specs.View.{port_at, Port, bit}
use Rattle.alpha_laws.proofs.Listed.{pulses_has, safes_moved}
use Rattle.alpha_laws.proofs.Runs.{Runs}
use Rattle.event_rule.specs.State.{State, link_at, link_to, node_of, sent_of}
use Rattle.event_rule.proofs.NetKept.{NetKept, all_kept}
use Rattle.std.proofs.lemmas.List.Elements.{Contains-append_left, Contains-append_right}
use Rattle.wires.specs.Wires.{payloads_of, safes_of}
use Rattle.link_rule.specs.Sent.{sends}
use Rattle.alpha_laws.specs.Position.{start_at}
use Rattle.alpha_laws.specs.Kept.{KeptAt, emitted_to}
use Rattle.alpha_laws.proofs.Claims.{simulates}
use Rattle.alpha_laws.proofs.Cursor.{payloads_to, payloads_to-grows}
use Rattle.event_rule.specs.Simulation.{IsSimulation}
use Rattle.event_rule.proofs.Changes.{pulse_of}
use Rattle.event_rule.proofs.Turned.{Passed}

module _ {S M : Type 0} where
  -- what was put on the link that v puts on by port i
  abbrev pub sent : State S M → ℕ → ℕ → List (Wire M)
  sent state v i = sent_of (link_at state.links v i)

  -- what was put on the link that comes to v by port i, and what was taken from it
  abbrev pub sent_here : Net → State S M → ℕ → ℕ → List (Wire M)
  sent_here net state v i = sent_of (link_to net state.links v i)

  abbrev pub taken : Net → State S M → ℕ → ℕ → List (Wire M)
  taken net state v i = (link_to net state.links v i).taken

module _ {S M E : Type 0} (program : Program S M E) (net : Net) where
  -- what the synchronous run sends there, both ways
  abbrev pub own : ℕ → ℕ → ℕ → Option M
  own v i = sends program net v (neighbour_of net v i)

  abbrev pub other : ℕ → ℕ → ℕ → Option M
  other v i = sends program net (neighbour_of net v i) v

  abbrev pub said_at : State S M → ℕ → Bool
  said_at state v = (node_of program net state v).view.said

  abbrev pub port_of : State S M → ℕ → ℕ → Port M
  port_of state v i = port_at (node_of program net state v).view i

  -- no wire waits in an out-list, and every node is at pulse m or past it
  pub record Level (m : ℕ) (state : State S M) : Type 0 where
    pub kept : NetKept program net state
    pub all_put : (v i : ℕ) → IsVertex net v → i < degree_of net v → (port_of state v i).out ≡ []
    pub least : (v : ℕ) → IsVertex net v → m ≤ pulse_of program net state v

module _ {S M E : Type 0} {program : Program S M E} {net : Net} (ok : IsNetwork net) (runs : Runs program net) where
  abbrev last : ℕ
  last = last_pulse_on program net

  pub simulation : (state : State S M) → NetKept program net state → IsSimulation program net state
  simulation state kept = simulates ok runs (all_kept ok kept)

  -- what a port whose wires were all put keeps
  pub port_kept : (m : ℕ) (state : State S M) → Level program net m state → (v i : ℕ) → IsVertex net v → i < degree_of net v
      → KeptAt program net v i (pulse_of program net state v) (said_at program net state v) (port_of program net state v i) (sent state v i)
      (taken net state v i)
  port_kept m state level v i vertex lt =
      subst (λ l. KeptAt program net v i (pulse_of program net state v) (said_at program net state v) (port_of program net state v i) l
      (taken net state v i))
      (ap (λ l. sent state v i ++ l) (level.all_put v i vertex lt) ∙ append-nil _) ((level.kept.each v vertex).ports.each i lt)

  -- a payload of m was put
  pub payload_put : (m : ℕ) (state : State S M) → Level program net m state → (v i : ℕ) → IsVertex net v → i < degree_of net v
      → is_some (own program net v i m) ≡ true
      → Contains (payloads_of (sent state v i)) m
  payload_put m state level v i vertex lt some =
      let kept = port_kept m state level v i vertex lt in
      let p = pulse_of program net state v in
      let is : payloads_of (sent state v i) ≡ payloads_to (own program net v i) (emitted_to last p (said_at program net state v) (own program net v i p)) =
      payloads_to-grows (own program net v i) last start_at (sent state v i) kept.emits ∙ ap (λ c. payloads_to (own program net v i) c) kept.emitted_at in
      subst (λ l. Contains l m) (sym is) (by (said_at program net state v) refl)
    where
      now : (p : ℕ) → p ≡ m → Contains (payloads_to (own program net v i) (emitted_to last p false (own program net v i p))) m
      now p at = let paid : is_some (own program net v i p) ≡ true = ap (λ k. is_some (own program net v i k)) at ∙ some in
          rw paid (Contains-append_right (sent_pulses (own program net v i) (p + 0)) ((p + 0) ∷ []) m (0, omega arith, omega (arith, at)))

      by : (s : Bool) → said_at program net state v ≡ s
          → Contains (payloads_to (own program net v i)
          (emitted_to last (pulse_of program net state v) s (own program net v i (pulse_of program net state v)))) m
      by true e = Contains-append_left (sent_pulses (own program net v i) (pulse_of program net state v + 1)) _ m
          (pulses_has (own program net v i) (pulse_of program net state v + 1) m (let le = level.least v vertex in omega arith) some)
      by false e = ⊎_elim
          (λ at. now (pulse_of program net state v) at)
          (λ ne. Contains-append_left (sent_pulses (own program net v i) (pulse_of program net state v + 0)) _ m
          (pulses_has (own program net v i) (pulse_of program net state v + 0) m (let le = level.least v vertex in omega (arith, le, ne)) some))
          (cases_eq (pulse_of program net state v) m)

  -- how many safes were put
  pub safes_put : (m : ℕ) (state : State S M) → Level program net m state → (v i : ℕ) → IsVertex net v → i < degree_of net v
      → safes_of (sent state v i) ≡ pulse_of program net state v + bit (said_at program net state v)
  safes_put m state level v i vertex lt =
      let kept = port_kept m state level v i vertex lt in
      omega (arith, safes_moved start_at (sent state v i), ap (λ c. c.safes) kept.emitted_at)

  pub level_on : (m : ℕ) (vs : List ℕ) (old new : State S M) → ((v : ℕ) → IsVertex net v → Contains vs v) → Passed ok runs vs old new
      → ((v : ℕ) → IsVertex net v → m ≤ pulse_of program net old v) → Level program net m new
  level_on m vs old new all passed least = record {
    kept = passed.kept;
    all_put = λ v i vertex lt. passed.put v i (all v vertex) vertex lt;
    least = λ v vertex. omega (arith, least v vertex, passed.later.pulses v vertex);
  }
