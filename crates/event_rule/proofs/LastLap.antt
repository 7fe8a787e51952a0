-- In one lap more, with every node at the last pulse, the closing marks are taken: nothing came behind them, so that all
-- that was put was taken, or a port that expects nothing was closed. No wire waits then and no node can make a pulse, so
-- no event is possible.
use Rattle.std.proofs.Common.{◌≡◌, ⊎_elim, ℕ, ◌<◌, ◌≤◌, false, List, [], ◌∷◌, ◌++◌, length, refl, sym, ap, ◌∙◌, append_assoc, arith, Bool}
use Rattle.std.proofs.Common.{true, not, ◌&&◌, eq-eqb, true≢false}
use Rattle.std.specs.Prelude.{Contains, nat_eq}
use Rattle.std.proofs.lemmas.List.{length-append}
use Rattle.interference.specs.Net.{Net, IsNetwork, IsVertex, degree_of, neighbour_of, back_port_of}
use Rattle.node_api.specs.Program.{Program, last_pulse_on}
use Rattle.wires.specs.declared.wire.Wire.{Wire}
use Rattle.alpha_core.specs.View.{all_safe, bit, can_take}
use Rattle.alpha_laws.proofs.Listed.{close_in, has_split}
use Rattle.alpha_laws.proofs.Runs.{Runs}
use Rattle.event_rule.specs.declared.event.Event.TheVariants.{Pulse, Put, Take}
use Rattle.event_rule.specs.State.{State, link_to, node_of}
use Rattle.wires.specs.declared.wire.Wire.TheVariants.{Close}
use Rattle.alpha_laws.specs.Position.{start_at}
use Rattle.alpha_laws.proofs.Lawful.{place_taken}
use Rattle.event_rule.specs.Endings.{IsTerminal}
use Rattle.event_rule.proofs.Changes.{pulse_of}
use Rattle.event_rule.proofs.Turned.{Passed}
use Rattle.event_rule.proofs.Levels.{sent, sent_here, taken, port_of, Level, simulation, port_kept}
use Rattle.event_rule.proofs.Enough.{quiet_is}

no_pulse : (p l : ℕ) (a b c : Bool) → p ≡ l → (not (nat_eq p l) && a && b && c) ≡ true → ⊥
no_pulse p l a b c e can =
    let none : (not (nat_eq p l) && a && b && c) ≡ false = rw (eq-eqb p l e) refl in
    true≢false (sym can ∙ none)

module _ {S M E : Type 0} {program : Program S M E} {net : Net} (ok : IsNetwork net) (runs : Runs program net) where
  abbrev last : ℕ
  last = last_pulse_on program net

  -- the last lap: the closing marks are taken
  module _ (vs : List ℕ) (old new : State S M) (all : (v : ℕ) → IsVertex net v → Contains vs v) (level : Level program net last old)
      (passed : Passed ok runs vs old new) where
    at_last : (v : ℕ) → IsVertex net v → pulse_of program net new v ≡ last
    at_last v vertex =
        let within = (passed.kept.each v vertex).ports.within in
        let le = level.least v vertex in
        let up = passed.later.pulses v vertex in
        omega (arith, within, le, up)

    was_last : (v : ℕ) → IsVertex net v → pulse_of program net old v ≡ last
    was_last v vertex = let within = (level.kept.each v vertex).ports.within in let le = level.least v vertex in omega (arith, within, le)

    all_taken : (v i : ℕ) → IsVertex net v → i < degree_of net v → length (sent_here net new v i) ≤ length (taken net new v i)
    all_taken v i vertex lt =
        let w = neighbour_of net v i in
        let k = back_port_of net v i in
        let vertex' = ok.vertices v i vertex lt in
        let lt' = ok.symmetric v i vertex lt in
        let kept = port_kept ok runs last old level w k vertex' lt' in
        let shut = close_in start_at (sent old w k) refl
        (ap (λ c. c.closed) kept.emitted_at ∙ eq-eqb (pulse_of program net old w) last (was_last w vertex')) in
        let split = has_split (sent old w k) Close shut in
        let more = passed.later.sent w k vertex' lt' in
        let none : split.1 ++ more.0 ≡ [] = (simulation ok runs new passed.kept).none_after_close w k vertex' lt' split.0 (split.1 ++ more.0)
        (sym more.1 ∙ ap (λ l. l ++ more.0) split.2 ∙ append_assoc split.0 (Close ∷ split.1) more.0) in
        let held = (link_to net new.links v i).held in
        let one = (passed.kept.each v vertex).ports.each i lt in
        let place = place_taken one in
        ⊎_elim
        (λ grew. absurd (omega (arith, grew, at_last v vertex, was_last v vertex)))
        (⊎_elim
        (λ quiet. ⊎_elim
        (λ closed.
        let has = close_in start_at (taken net new v i) refl (ap (λ c. c.closed) one.taken_at ∙ closed) in
        let parts = has_split (taken net new v i) Close has in
        let no_more : parts.1 ++ held ≡ [] = (simulation ok runs new passed.kept).none_after_close w k vertex' lt' parts.0 (parts.1 ++ held)
        (ap (λ l. l ++ held) parts.2 ∙ append_assoc parts.0 (Close ∷ parts.1) held) in
        omega (arith, ap (λ (l : List (Wire M)). length l) no_more, length-append parts.1 held, length-append (taken net new v i) held))
        (λ both. absurd (omega (arith, place.most, ap bit both.0, at_last v vertex)))
        (quiet_is (port_of program net new v i).closed (port_of program net new v i).safe (port_of program net new v i).waits quiet))
        (λ came. omega (
          arith,
          ap (λ (l : List (Wire M)). length l) none,
          length-append split.1 more.0,
          ap (λ (l : List (Wire M)). length l) more.1,
          length-append (sent old w k) more.0,
          ap (λ (l : List (Wire M)). length l) came.1,
          length-append (sent_here net old v i) came.0,
        )))
        (passed.taken v i (all v vertex) vertex lt)

    pub terminal : IsTerminal program net new
    terminal (Pulse v) possible =
        let view = (node_of program net new v).view in
        absurd (no_pulse view.pulse last view.said (all_safe view.ports) (can_take view) (at_last v possible.0) possible.1)
    terminal (Put v i) possible =
        let none = passed.put v i (all v possible.0.0) possible.0.0 possible.0.1 in
        let some = possible.1 in
        absurd (omega (arith, some, ap (λ (l : List (Wire M)). length l) none))
    terminal (Take v i) possible =
        let some = possible.1 in
        absurd (omega (arith, some, all_taken v i possible.0.0 possible.0.1))
