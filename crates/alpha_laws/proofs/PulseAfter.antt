-- The pulse of a node after an event.
use Rattle.std.proofs.Common.{◌≡◌, ℕ, suc, List, Result, Ok, Err, Option, Some, None, map, refl, sym, ap, ◌∙◌, ⊎_elim}
use Rattle.std.specs.Prelude.{nat_lt, ◌&&◌, replicate, false}
use Rattle.std.proofs.lemmas.Bool.{cases_Bool}
use Rattle.interference.specs.Net.{Net, degree_of}
use Rattle.node_api.specs.Program.{Program, last_pulse_on, own_of}
use Rattle.wires.specs.declared.wire.Wire.{Wire}
use Rattle.wires.specs.declared.wire.Wire.TheVariants as wire
use Rattle.alpha_core.specs.declared.refused.AlphaRefused.{AlphaRefused}
use Rattle.alpha_core.specs.View.{View, Node, Port, new_port, none_waits, port_at, set_port}
use Rattle.alpha_core.specs.Table.{refusal_of}
use Rattle.alpha_core.specs.Alpha.{settles, enter_all, entering, advances, reacts, reaction, unless_refused, pulsed}
use Rattle.alpha_core.specs.Program.{start_node}

settles_pulse : {M : Type 0} (last : ℕ) (view : View M) → (settles last view).pulse ≡ view.pulse
settles_pulse last view = ⊎_elim (λ met. rw met refl) (λ missed. rw missed refl) (cases_Bool (nat_lt view.pulse last && none_waits view.ports))

entering_pulse : {M : Type 0} (last p : ℕ) (sent : List (Option M)) (ports : List (Port M)) → (entering last p sent ports).pulse ≡ p
entering_pulse last p sent ports = settles_pulse last record { pulse = p; said = false; ports = enter_all last p sent ports }

reacts_pulse : {M : Type 0} (last : ℕ) (view : View M) (i : ℕ) (w : Wire M) → (reacts last view i w).pulse ≡ view.pulse
reacts_pulse last view i (wire.Payload q x) = refl
reacts_pulse last view i (wire.Ack q) = settles_pulse last (set_port view i record (port_at view i) { waits = false })
reacts_pulse last view i (wire.Safe q) = refl
reacts_pulse last view i wire.Close = refl

pub not_refused : {A : Type 0} (o : Option AlphaRefused) (x y : A) → unless_refused o x ≡ Ok y → x ≡ y
not_refused None x y e = cc
not_refused (Some refused) x y e = absurd cc

-- a wire leaves it,
pub reaction_pulse : {M : Type 0} (last : ℕ) (view new : View M) (i : ℕ) (w : Wire M) → reaction last view i w ≡ Ok new → new.pulse ≡ view.pulse
reaction_pulse last view new i w e =
    ap (λ u. u.pulse) (sym (not_refused (refusal_of last view.pulse view.said (port_at view i) w) (reacts last view i w) new e)) ∙ reacts_pulse last view i w

-- a pulse adds one,
pub pulsed_pulse : {S M E : Type 0} (last : ℕ) (node new : Node S M) (r : Result (S × List (Option M)) E) → pulsed last node r ≡ Ok new
    → new.view.pulse ≡ suc node.view.pulse
pulsed_pulse last node new (Ok next) e =
    let is = ok_same e in ap (λ n. n.view.pulse) (sym is) ∙ entering_pulse last (suc node.view.pulse) next.1 (map (λ port. advances port) node.view.ports)
  where
    ok_same : {A B : Type 0} {x y : A} → ◌≡◌ {A = Result A B} (Ok x) (Ok y) → x ≡ y
    ok_same e = cc
pulsed_pulse last node new (Err refused) e = absurd cc

-- and it begins at 0.
pub start_pulse : {S M E : Type 0} (program : Program S M E) (net : Net) (v : ℕ) → (start_node program net v).view.pulse ≡ 0
start_pulse program net v =
    let greeting = program.greet (program.made (own_of net v)) in
    entering_pulse (last_pulse_on program net) 0 greeting.1 (replicate (degree_of net v) new_port)
