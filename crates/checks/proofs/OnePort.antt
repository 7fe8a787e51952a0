-- Whatever a node does, it keeps as many ports as it has.
use Rattle.std.proofs.Common.{◌≡◌, ℕ, suc, ◌&&◌, Option, List, map, length, sym, ap, ◌∙◌}
use Rattle.std.specs.Prelude.{nat_lt, Result, Ok, Err, MatchResult, OnErr, if◌then◌else◌}
use Rattle.std.proofs.lemmas.List.{length-map, length-set}
use Rattle.alpha_laws.proofs.PulseAfter.{not_refused}
use Rattle.wires.specs.declared.wire.Wire.{Wire}
use Rattle.wires.specs.declared.wire.Wire.TheVariants.{Payload, Ack, Safe, Close}
use Rattle.alpha_core.specs.declared.refused.AlphaRefused.{AlphaRefused}
use Rattle.node_api.specs.declared.program.Refused.{Refused}
use Rattle.alpha_core.specs.View.{View, Node, Alpha, port_at, none_waits, set_at}
use Rattle.alpha_core.specs.Alpha.{reaction, reacts, takes, PulseRefused, pulse, pulsed, advances, entering}
use Rattle.alpha_core.specs.Table.{refusal_of}
use Rattle.alpha_core.proofs.PortLists.{entering-length, settled-length}

reacts-length : {M : Type 0} (last : ℕ) (view : View M) (i : ℕ) (w : Wire M) → length (reacts last view i w).ports ≡ length view.ports
reacts-length last view i (Payload q x) = length-set view.ports i (takes view.pulse (port_at view i) (Payload q x))
reacts-length {M} last view i (Ack q) =
    let w : Wire M = Ack q in
    let port = takes view.pulse (port_at view i) w in
    let ports = set_at view.ports i port in
    settled-length (nat_lt view.pulse last && none_waits ports) record { pulse = view.pulse; said = view.said; ports = ports }
    ∙ length-set view.ports i port
reacts-length last view i (Safe q) = length-set view.ports i (takes view.pulse (port_at view i) (Safe q))
reacts-length last view i Close = length-set view.ports i (takes view.pulse (port_at view i) Close)

-- a wire that is taken
pub taken_length : {M : Type 0} (last : ℕ) (view next : View M) (i : ℕ) (w : Wire M) → reaction last view i w ≡ Ok next → length next.ports ≡ length view.ports
taken_length last view next i w e =
    sym (ap (λ v. length v.ports) (not_refused (refusal_of last view.pulse view.said (port_at view i) w) (reacts last view i w) next e))
    ∙ reacts-length last view i w

-- a pulse that is made
pub pulsed-length : {S M E : Type 0} (last : ℕ) (node next : Node S M) (returned : Result (S × List (Option M)) E) → pulsed last node returned ≡ Ok next
    → length next.view.ports ≡ length node.view.ports
pulsed-length last node next (Ok x) e =
    let is : record { state = x.0; view = entering last (suc node.view.pulse) x.1 (map (λ port. advances port) node.view.ports) } ≡ next = cc in
    sym (ap (λ n. length n.view.ports) is)
    ∙ entering-length last (suc node.view.pulse) x.1 (map (λ port. advances port) node.view.ports)
    ∙ length-map node.view.ports _
pulsed-length last node next (Err why) e = absurd cc

-- so after a call of either, whatever it returns
pub taking : {S M A : Type 0} (old new : Alpha S M) (i : ℕ) (w : Wire M) (r : Result A AlphaRefused)
    → MatchResult r (λ _. reaction old.last old.node.view i w ≡ Ok new.node.view) (λ refused. reaction old.last old.node.view i w ≡ Err refused)
    → OnErr r (new ≡ old) → length new.node.view.ports ≡ length old.node.view.ports
taking old new i w (Ok x) e same = taken_length old.last old.node.view new.node.view i w e
taking old new i w (Err why) e same = ap (λ a. length a.node.view.ports) same

pub pulsing : {S M A : Type 0} (next : S → ℕ → List (Option M) → Result (S × List (Option M)) Refused) (old new : Alpha S M) (r : Result A AlphaRefused)
    → MatchResult r (λ _. pulse next old.last old.node ≡ Ok new.node) (λ refused. PulseRefused refused (pulse next old.last old.node))
    → OnErr r (new ≡ old) → length new.node.view.ports ≡ length old.node.view.ports
pulsing next old new (Ok x) e same = pulsed-length old.last old.node new.node _ e
pulsing next old new (Err why) e same = ap (λ a. length a.node.view.ports) same
