-- The events that are possible in a state that is reached: one of a node that can move, and none if the state is whole.
use Rattle.std.proofs.Common.{◌≡◌, ℕ, ◌<◌, ◌⊎◌, inl, inr, true, not, [], length, sym, ap, ◌∙◌, arith, ⊎_elim}
use Rattle.std.proofs.lemmas.Bool.{and_parts}
use Rattle.std.proofs.lemmas.List.{length-append}
use Rattle.interference.specs.Net.{Net, IsNetwork, IsVertex}
use Rattle.node_api.specs.Program.{Program, last_pulse_on}
use Rattle.alpha_core.specs.View.{is_halted}
use Rattle.alpha_laws.specs.Progress.{CanMove}
use Rattle.alpha_laws.proofs.Claims.{simulates}
use Rattle.alpha_laws.proofs.EachPort.{out_at}
use Rattle.alpha_laws.proofs.Moves.{moves}
use Rattle.alpha_laws.proofs.Runs.{Runs}
use Rattle.event_rule.specs.declared.event.Event.{Event}
use Rattle.event_rule.specs.declared.event.Event.TheVariants.{Pulse, Put, Take}
use Rattle.event_rule.specs.State.{State, node_of, link_at, link_to}
use Rattle.event_rule.specs.Events.{Possible}
use Rattle.event_rule.proofs.NetKept.{NetKept, all_kept}
use Rattle.event_rule.specs.Endings.{IsWholeState, PossibleWithin}

module _ {S M E : Type 0} {program : Program S M E} {net : Net} (ok : IsNetwork net) (runs : Runs program net) {state : State S M}
    (kept : NetKept program net state) where
  -- the event of a node that can move
  event_of : (capacity v : ℕ) → IsVertex net v → CanMove capacity program net (node_of program net state) (λ v i. (link_at state.links v i).held) v
      → (event : Event) × PossibleWithin capacity program net state event
  event_of capacity v vertex can = ⊎_elim
      (λ (takes, (i, lt, holds)).
      let link = link_to net state.links v i in
      (Take v i, (((vertex, lt), omega (arith, length-append link.taken link.held, holds)), tt)))
      (λ more. ⊎_elim
      (λ (i, lt, some, room). (Put v i, (((vertex, lt), some), room)))
      (λ pulses. (Pulse v, ((vertex, pulses), tt)))
      more)
      can

  pub no_deadlock : (capacity : ℕ) → 0 < capacity → ((event : Event) × PossibleWithin capacity program net state event) ⊎ IsWholeState program net state
  no_deadlock capacity some =
      let all = all_kept ok kept in
      ⊎_elim
      (λ (v, vertex, can). inl (event_of capacity v vertex can))
      (λ whole. inr whole)
      (moves ok (simulates ok runs all) all.splits capacity some)

  pub whole_terminal : IsWholeState program net state → (event : Event) → Possible program net state event → ⊥
  whole_terminal whole (Pulse v) (vertex, can) =
      let view = (node_of program net state v).view in
      let halted : is_halted (last_pulse_on program net) view ≡ true = (and_parts _ _ (and_parts _ _ (whole.drained v vertex)).0).0 in
      let not_halted : not (is_halted (last_pulse_on program net) view) ≡ true = (and_parts _ _ (and_parts _ _ (and_parts _ _ can).0).0).0 in
      let wrong : not true ≡ true = ap not (sym halted) ∙ not_halted in
      absurd cc
  whole_terminal whole (Put v i) ((vertex, lt), some) =
      let view = (node_of program net state v).view in
      let few = out_at 0 view.ports i (and_parts _ _ (and_parts _ _ (whole.drained v vertex)).0).1 (omega (arith, (kept.each v vertex).ports.count, lt)) in
      absurd (omega arith)
  whole_terminal whole (Take v i) ((vertex, lt), some) =
      let link = link_to net state.links v i in
      let empty : link.held ≡ [] = whole.empty _ _ (ok.vertices v i vertex lt) (ok.symmetric v i vertex lt) in
      absurd (omega (arith, some, length-append link.taken link.held, ap length empty))
